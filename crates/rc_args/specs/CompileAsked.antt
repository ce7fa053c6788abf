-- What the words ask of `compile`.
use Rattle.std.specs.Prelude.{◌≡◌, Bool, List, Option, codes, map, option_map, string_bytes}
use Rattle.clap.specs.Words.{Row, Text, first_of}
use Rattle.rc_args.specs.Words.{is_on, words_in}
use Rattle.rc_args.specs.declared.compile_words.CompileRequest.{CompileRequest}

-- what is asked of `compile`: its sources, the file that the database is put into, if one is named,
-- and whether what was not looked at is told
pub record CompileAsk : Type 0 where
  pub sources : List Text
  pub output : Option Text
  pub tells : Bool

-- the matches of `compile` are those of these sources and of this file, told or not
pub record AsksCompileIn (rows : List Row) (ask : CompileAsk) : Type 0 where
  pub sources : ask.sources ≡ words_in rows
  pub output : ask.output ≡ first_of (codes "output") rows
  pub tells : ask.tells ≡ is_on (codes "verbose") rows

-- what a request of the program asks
abbrev pub compile_ask_of : CompileRequest → CompileAsk
compile_ask_of request = record {
  sources = map string_bytes request.sources.items;
  output = option_map (λ f. f.now) request.output;
  tells = request.tells;
}
