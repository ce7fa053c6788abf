-- What the words ask of `update`.
use Rattle.std.specs.Prelude.{◌≡◌, Bool, List, Option, codes, map, option_map, true}
use Rattle.clap.specs.Words.{Row, Text, first_of}
use Rattle.rc_args.specs.Words.{is_on, values_in}
use Rattle.rc_args.specs.SessionAsked.{AsksSessionIn, SessionAsk, session_ask_of}
use Rattle.rc_args.specs.declared.update_words.UpdateRequest.{UpdateRequest}
use Rattle.rc_update.specs.Conversions.{Conversion, conversions_of}

-- what is asked of `update`: what is asked of the sessions that it makes, the file of the new
-- database, if another than that of `-b` is named, that of the renames, under which names services
-- go on and which are restarted, and whether it is shown and not done
pub record UpdateAsk : Type 0 where
  pub session : SessionAsk
  pub new : Option Text
  pub renames : Option Text
  pub conversions : List Conversion
  pub dry : Bool

-- the service of this name is restarted
abbrev pub restart_of : Text → Conversion
restart_of name = record { old = name; new = name; restart = true }

-- the matches of `update` ask this; what the file of the renames says stands in no words
pub record AsksUpdateIn (rows : List Row) (ask : UpdateAsk) : Type 0 where
  pub session : AsksSessionIn rows ask.session
  pub new : ask.new ≡ first_of (codes "new") rows
  pub renames : ask.renames ≡ first_of (codes "renames") rows
  pub conversions : ask.conversions ≡ map restart_of (values_in (codes "restarts") rows)
  pub dry : ask.dry ≡ is_on (codes "dry") rows

-- what a request of the program asks
abbrev pub update_ask_of : UpdateRequest → UpdateAsk
update_ask_of request = record {
  session = session_ask_of request.session;
  new = option_map (λ file. file.now) request.new;
  renames = option_map (λ file. file.now) request.renames;
  conversions = conversions_of request.conversions.items;
  dry = request.dry;
}
