-- What the words ask of a session of one line.
use Rattle.std.specs.Prelude.{◌≡◌, ◌≢◌, ◌∷◌, ℕ, Bool, true, false, List, [], Option, None, Some}
use Rattle.std.specs.Prelude.{All, Contains}
use Rattle.std.specs.Prelude.{codes, map, string_bytes}
use Rattle.clap.specs.Words.{Row, Text, first_of}
use Rattle.rc_model.specs.Names.{IsName}
use Rattle.rc_model.specs.Plan.{Ask}
use Rattle.rc_model.specs.Session.{Add, Change, Delete, Redo, Undo}
use Rattle.rc_script.specs.Says.{Saying, SaysBundles, SaysDry, SaysJournal, SaysLive, SaysNothing}
use Rattle.rc_script.specs.Says.{SaysStep, SaysWrong, saying_of}
use Rattle.rc_args.specs.Words.{is_on, words_in}
use Rattle.rc_args.specs.Asked.{ask_with}
use Rattle.rc_args.specs.Limits.{IsRunLimitIn, IsStateIn}
use Rattle.rc_args.specs.SessionAsked.{AsksSessionIn, SessionAsk, Starts, session_ask_of}
use Rattle.rc_args.specs.declared.once_words.Once.{Once}
use Rattle.rc_args.specs.declared.once_words.Once.TheVariants as once
use Rattle.rc_args.specs.declared.once_words.OnceRequest.{OnceRequest}

-- what one line is to do: what a session line says, or to show what is down, or what an undo, a
-- redo or a restart would move
pub data OnceSaying : Type 0 where
  Said : Saying → OnceSaying
  WantsDryUndo : OnceSaying
  WantsDryRedo : OnceSaying
  WantsDryRestart : (names : List Text) → OnceSaying
  WantsDown : OnceSaying

-- what is asked of a session of one line: what that is to do, the state to which it goes back by
-- one undo after the other, if one is named, and what is asked of the session
pub record OnceAsk : Type 0 where
  pub what : OnceSaying
  pub to : Option ℕ
  pub session : SessionAsk

-- it shows what would move
abbrev pub IsShown : OnceSaying → Type 0
IsShown (Said (SaysDry ask)) = Unit {0}
IsShown WantsDryUndo = Unit {0}
IsShown WantsDryRedo = Unit {0}
IsShown (WantsDryRestart names) = Unit {0}
IsShown other = ⊥

-- it names no file, though it starts programs or asks what is up: what it starts would be known to
-- nobody, and nothing is known to it
abbrev pub LacksFile : OnceAsk → Type 0
LacksFile ask = (ask.session.live ≡ None) × Starts ask.session × (IsShown ask.what → ⊥)

-- the command that asks this
abbrev pub once_command : OnceSaying → Text
once_command (Said SaysNothing) = []
once_command (Said SaysWrong) = []
once_command (Said (SaysStep (Change ask events))) = codes "change"
once_command (Said (SaysStep (Undo limit events))) = codes "undo"
once_command (Said (SaysStep (Redo limit events))) = codes "redo"
once_command (Said (SaysStep (Add name contents force))) = codes "add"
once_command (Said (SaysStep (Delete words force))) = codes "delete"
once_command (Said (SaysDry ask)) = codes "change"
once_command (Said SaysLive) = codes "live"
once_command (Said SaysBundles) = codes "bundles"
once_command (Said SaysJournal) = codes "journal"
once_command WantsDryUndo = codes "undo"
once_command WantsDryRedo = codes "redo"
once_command (WantsDryRestart names) = codes "restart"
once_command WantsDown = codes "live"

-- the matches of `change` ask this, with the limit that is given, where this flag counts as given
abbrev pub AsksChangeIn : (flag : Text) → List Row → Ask → Type 0
AsksChangeIn flag rows ask = (ask_with flag rows ≡ Some (record ask { limit = 0 }))
    × IsRunLimitIn (first_of (codes "limit") rows) ask.limit

-- the matches of an undo or a redo give this limit
abbrev pub AsksStepIn : List Row → ℕ → Type 0
AsksStepIn rows limit = IsRunLimitIn (first_of (codes "limit") rows) limit

-- a bundle of the first word, which is a name, is to hold what the other words name
abbrev pub Adds : List (List ℕ) → Bool → OnceSaying → Type 0
Adds words force (Said (SaysStep (Add name contents forced))) =
    (words ≡ name ∷ contents) × IsName name × (forced ≡ force)
Adds words force other = ⊥

-- the matches of its command ask this, where this flag counts as given: with the flag `dry` it is
-- shown and not done, and with the flag `down` what is down is shown
abbrev pub AsksWhatIn : (flag : Text) → List Row → OnceSaying → Type 0
AsksWhatIn flag rows (Said SaysNothing) = ⊥
AsksWhatIn flag rows (Said SaysWrong) = ⊥
AsksWhatIn flag rows (Said (SaysStep (Change ask events))) =
    (is_on (codes "dry") rows ≡ false) × (events ≡ []) × AsksChangeIn flag rows ask
AsksWhatIn flag rows (Said (SaysStep (Undo limit events))) =
    (is_on (codes "dry") rows ≡ false) × (events ≡ []) × AsksStepIn rows limit
AsksWhatIn flag rows (Said (SaysStep (Redo limit events))) =
    (is_on (codes "dry") rows ≡ false) × (events ≡ []) × AsksStepIn rows limit
AsksWhatIn flag rows (Said (SaysStep (Add name contents force))) =
    Adds (words_in rows) (is_on (codes "force") rows) (Said (SaysStep (Add name contents force)))
AsksWhatIn flag rows (Said (SaysStep (Delete words force))) =
    (words_in rows ≡ words) × (force ≡ is_on (codes "force") rows)
AsksWhatIn flag rows (Said (SaysDry ask)) =
    (is_on (codes "dry") rows ≡ true) × AsksChangeIn flag rows ask
AsksWhatIn flag rows (Said SaysLive) = is_on (codes "down") rows ≡ false
AsksWhatIn flag rows (Said SaysBundles) = Unit {0}
AsksWhatIn flag rows (Said SaysJournal) = Unit {0}
AsksWhatIn flag rows WantsDryUndo = (is_on (codes "dry") rows ≡ true)
    × ((limit : ℕ) × AsksStepIn rows limit)
AsksWhatIn flag rows WantsDryRedo = (is_on (codes "dry") rows ≡ true)
    × ((limit : ℕ) × AsksStepIn rows limit)
AsksWhatIn flag rows (WantsDryRestart names) =
    (is_on (codes "dry") rows ≡ true) × (names ≡ words_in rows)
AsksWhatIn flag rows WantsDown = is_on (codes "down") rows ≡ true

-- the matches of the command of this name ask this to be done, where this flag counts as given
abbrev pub AsksWhat : (name flag : Text) → List Row → OnceSaying → Type 0
AsksWhat name flag rows what = (name ≡ once_command what) × AsksWhatIn flag rows what

-- the matches name this state to go back to, or none
abbrev pub AsksStateIn : List Row → Option ℕ → Type 0
AsksStateIn rows to = IsStateIn (first_of (codes "to") rows) (is_on (codes "dry") rows) to

-- the word that entered the command gives it a flag, and wants names, but none is named: a slip is
-- not to move what nobody named
abbrev pub LacksNames : (flag : Text) → List Row → Type 0
LacksNames flag rows =
    (flag ≢ []) × (words_in rows ≡ []) × (is_on (codes "all") rows ≡ false)

-- a word has no newline, so that an answer which names it is one line
unfoldable pub IsOneLine : List ℕ → Type 0
IsOneLine word = Contains word 10 → ⊥

abbrev pub AreOneLine : List (List ℕ) → Type 0
AreOneLine words = All IsOneLine words

-- the matches ask this of a session of one line, where this flag counts as given
abbrev pub AsksOnceIn : (flag : Text) → List Row → OnceAsk → Type 0
AsksOnceIn flag rows ask =
    AsksWhatIn flag rows ask.what × AsksStateIn rows ask.to × AsksSessionIn rows ask.session
    × AreOneLine (words_in rows) × (LacksNames flag rows → ⊥)

-- what one line is to do, as the program has it
abbrev pub once_saying_of : Once → OnceSaying
once_saying_of (once.Line line) = Said (saying_of line)
once_saying_of once.DryUndo = WantsDryUndo
once_saying_of once.DryRedo = WantsDryRedo
once_saying_of (once.DryRestart names) = WantsDryRestart (map string_bytes names.items)
once_saying_of once.Down = WantsDown

-- what a request of the program asks
abbrev pub once_ask_of : OnceRequest → OnceAsk
once_ask_of request = record {
  what = once_saying_of request.once;
  to = request.to;
  session = session_ask_of request.session;
}
