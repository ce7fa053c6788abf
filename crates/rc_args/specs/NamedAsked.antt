-- What the words ask of `restart`, `status` and `check`.
use Rattle.std.specs.Prelude.{◌≡◌, Bool, List, codes, map, string_bytes}
use Rattle.clap.specs.Words.{Row, Text}
use Rattle.rc_args.specs.Words.{is_on, words_in}
use Rattle.rc_args.specs.OnceAsked.{AreOneLine}
use Rattle.rc_args.specs.SessionAsked.{AsksSessionIn, SessionAsk, session_ask_of}
use Rattle.rc_args.specs.declared.named_words.NamedRequest.{NamedRequest}

-- what is asked of a session, names of services and bundles, whether nothing but failures is to be
-- shown, and whether services are to be brought where the session says
pub record NamedAsk : Type 0 where
  pub session : SessionAsk
  pub names : List Text
  pub failed : Bool
  pub repairs : Bool

-- the matches of the command ask this
pub record AsksNamesIn (rows : List Row) (ask : NamedAsk) : Type 0 where
  pub session : AsksSessionIn rows ask.session
  pub names : ask.names ≡ words_in rows
  pub failed : ask.failed ≡ is_on (codes "failed") rows
  pub repairs : ask.repairs ≡ is_on (codes "repair") rows
  pub one_line : AreOneLine (words_in rows)

-- what a request of the program asks
abbrev pub named_ask_of : NamedRequest → NamedAsk
named_ask_of request = record {
  session = session_ask_of request.session;
  names = map string_bytes request.names.items;
  failed = request.failed;
  repairs = request.repairs;
}
