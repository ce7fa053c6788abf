-- What a command is given where its words name nothing.
use Rattle.std.specs.Prelude.{Option, None, Some, option_map}
use Rattle.clap.specs.Words.{Text}
use Rattle.rc_args.specs.Programs.{ByPrograms, ByTable, MakingAsk}
use Rattle.rc_args.specs.SessionAsked.{SessionAsk}
use Rattle.rc_args.specs.declared.defaults.Defaults.{Defaults}

-- the files of `-b` and `-l`, the programs of `-r` and `-c`, and the directory of `-o`, where the
-- words name none
pub record DefaultsAsk : Type 0 where
  pub base : Option Text
  pub live : Option Text
  pub runner : Option Text
  pub controller : Option Text
  pub output : Option Text

-- those that a value of the program names
abbrev pub defaults_ask_of : Defaults → DefaultsAsk
defaults_ask_of defaults = record {
  base = option_map (λ t. t.now) defaults.base;
  live = option_map (λ t. t.now) defaults.live;
  runner = option_map (λ t. t.now) defaults.runner;
  controller = option_map (λ t. t.now) defaults.controller;
  output = option_map (λ t. t.now) defaults.output;
}

-- what is named, or where nothing is the default
abbrev pub first_named : {A : Type 0} → (named default : Option A) → Option A
first_named (Some text) default = Some text
first_named None default = default

-- how transitions are made, with these programs where none is named
abbrev pub making_by : DefaultsAsk → MakingAsk → MakingAsk
making_by defaults (ByTable failing) = ByTable failing
making_by defaults (ByPrograms runner controller limit) =
    ByPrograms (first_named runner defaults.runner)
    (first_named controller defaults.controller) limit

-- the default file of a session: none where nothing is started, so that the file of a machine is
-- altered only where the words name it
abbrev pub default_live : DefaultsAsk → MakingAsk → Option Text
default_live defaults (ByTable failing) = None
default_live defaults (ByPrograms runner controller limit) = defaults.live

-- the default directory of outputs: none where nothing is started
abbrev pub default_output : DefaultsAsk → MakingAsk → Option Text
default_output defaults (ByTable failing) = None
default_output defaults (ByPrograms runner controller limit) = defaults.output

-- the same session, with these where nothing is named
abbrev pub session_by : DefaultsAsk → SessionAsk → SessionAsk
session_by defaults ask = record ask {
  making = making_by defaults ask.making;
  live = first_named ask.live (default_live defaults ask.making);
  output = first_named ask.output (default_output defaults ask.making);
}
