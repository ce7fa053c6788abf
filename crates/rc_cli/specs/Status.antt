-- Where services stand, as `status` prints it.
use Rattle.std.specs.Prelude.{◌≡◌, ◌⊎◌, ◌∷◌, ◌++◌, ◌<◌, ◌==◌, ◌&&◌, ℕ, Bool, List, [], Option}
use Rattle.std.specs.Prelude.{Some, true, false, zero, suc, codes, length, not, slice_index_or}
use Rattle.std.specs.Prelude.{if◌then◌else◌}
use Rattle.std.specs.Io.KnownBytes.{Appends}
use Rattle.std.specs.List.{fold, list_any}
use Rattle.rc_model.specs.declared.Event.{Event}
use Rattle.rc_model.specs.declared.Event.TheVariants.{Take, Done, Stop}
use Rattle.rc_model.specs.declared.Refusal.TheVariants.{Unknown}
use Rattle.rc_model.specs.declared.Standing.{Standing}
use Rattle.rc_model.specs.declared.Standing.TheVariants.{Down, Rising, Up, Sinking}
use Rattle.rc_model.specs.Names.{Has, Holds}
use Rattle.rc_model.specs.Database.{Database, IsUnknownAt, Selected}
use Rattle.rc_model.specs.Line.{Line}
use Rattle.rc_model.specs.Run.{after_event, is_success}
use Rattle.rc_render.specs.Lines.{line}
use Rattle.rc_render.specs.RefusalText.{refusal_text}
use Rattle.rc_recovery.specs.Logged.{AreLogged}
use Rattle.rc_dbtext.specs.Base.{Spells}
use Rattle.rc_streams.specs.Input.{AppendsFront}
use Rattle.rc_serve.specs.declared.fault.ServeFault.TheVariants.{Memory, Write}
use Rattle.rc_args.specs.NamedAsked.{NamedAsk}
use Rattle.rc_args.specs.declared.verbosity.Verbosity.{Verbosity}
use Rattle.rc_args.specs.declared.verbosity.Verbosity.TheVariants.{Failures, Quiet, Transitions}
use Rattle.rc_cli.specs.Failures.{listed, shown_text}
use Rattle.rc_cli.specs.Filing.{BeginsBy, file_named}
use Rattle.rc_cli.specs.SessionFaults.{IsFileFault, IsTold, IsUnspelled}
use Rattle.rc_cli.specs.Since.{timed_text}
use Rattle.rc_cli.specs.declared.sessions.keeping.LiveFile.{LiveFile}
use Rattle.rc_cli.specs.declared.sessions.keeping.LiveFile.TheVariants as file
use Rattle.rc_cli.specs.declared.sessions.session_fault.SessionFault.{SessionFault}
use Rattle.rc_cli.specs.declared.sessions.session_fault.SessionFault.TheVariants.{Failed}
use Rattle.rc_cli.specs.declared.status.RunLog.{RunLog as ReadLog}
use Rattle.rc_cli.specs.declared.status.Shown.{Shown}
use Rattle.rc_cli.specs.declared.status.Shown.TheVariants as shown

-- whether an event says that a transition of this service has failed
abbrev pub fails : ℕ → Event → Bool
fails s (Take w t) = false
fails s (Done w t o) = (t == s) && not (is_success o)
fails s (Stop w m) = false

-- where a service stands after events that was live before them, or was not
abbrev pub standing_after : (live : Bool) → List Event → ℕ → Standing
standing_after live events s = fold (after_event s) (if live then Up else Down) events

-- the word for a service: that a transition of it failed, and else where it stands
abbrev pub standing_word : (failed : Bool) → Standing → List ℕ
standing_word true standing = codes "failed"
standing_word false Down = codes "down"
standing_word false Rising = codes "rising"
standing_word false Up = codes "up"
standing_word false Sinking = codes "sinking"

abbrev pub word_of : (live : List Bool) → List Event → ℕ → List ℕ
word_of live events s = standing_word (list_any (fails s) events)
    (standing_after (slice_index_or live s false) events s)

-- the line of a service, where it is wanted
abbrev pub line_of : (names : List (List ℕ)) → (wanted live : List Bool) → List Event → ℕ
    → List ℕ
line_of names wanted live events s = if slice_index_or wanted s false
    then line (slice_index_or names s [] ++ 32 ∷ word_of live events s) else []

-- the lines of the wanted among the first services, in byte order
abbrev pub lines_to : (names : List (List ℕ)) → (wanted live : List Bool) → List Event
    → (count : ℕ) → List ℕ
lines_to names wanted live events zero = []
lines_to names wanted live events (suc s) =
    lines_to names wanted live events s ++ line_of names wanted live events s

-- a service is up, and no transition of it failed
abbrev pub IsUp : (live : List Bool) → List Event → ℕ → Type 0
IsUp live events s = word_of live events s ≡ codes "up"

-- a text is the lines of the services of which this holds
abbrev pub IsTextOf : Database → (live : List Bool) → List Event → (ℕ → Type 0) → List ℕ → Type 0
IsTextOf d live events P text = (wanted : List Bool) × Holds wanted P
    × (text ≡ lines_to d.names wanted live events (length d.names))

-- how it ends where these services were named: as up where all of them are
abbrev pub IsUpAs : Shown → (wanted live : List Bool) → List Event → Type 0
IsUpAs shown.Up wanted live events = (s : ℕ) → Has wanted s → IsUp live events s
IsUpAs shown.NotUp wanted live events = (s : ℕ) × Has wanted s × (IsUp live events s → ⊥)
IsUpAs shown.Refused wanted live events = ⊥

-- the lines of all services, where none is named; or of those that are named
abbrev pub Stands : Database → Line → List Event → (asked : List (List ℕ)) → Shown → List ℕ
    → Type 0
Stands d here events [] ending text = (ending ≡ shown.Up)
    × IsTextOf d here.current.live events (λ s. s < length d.names) text
Stands d here events (word ∷ words) ending text = (wanted : List Bool)
    × Holds wanted (Selected d.names here.current.table (word ∷ words))
    × (text ≡ lines_to d.names wanted here.current.live events (length d.names))
    × IsUpAs ending wanted here.current.live events

-- the answer of `status`: those lines; or that the first name which is none is refused
abbrev pub AnswersStatus : Database → Line → List Event → (asked : List (List ℕ)) → Shown
    → List ℕ → Type 0
AnswersStatus d here events asked ending text = Stands d here events asked ending text
    ⊎ ((place : ℕ) × IsUnknownAt d.names here.current.table asked place × (ending ≡ shown.Refused)
    × (text ≡ refusal_text asked (Unknown place)))

-- the events that the run log beside a file says of the text in it
abbrev pub AreOfFile : Database → LiveFile → (log : List ℕ) → List Event → Type 0
AreOfFile d file.Missing log events = events ≡ []
AreOfFile d (file.Text bytes) log events = AreLogged d.names bytes.now log events
AreOfFile d (file.Unread fault) log events = events ≡ []

-- where services stand by a line of states and the run log beside the file of it
abbrev pub AnswersAt : Database → Line → LiveFile → (log : List ℕ) → (asked : List (List ℕ))
    → Shown → List ℕ → Type 0
AnswersAt d here live log asked ending text = (events : List Event)
    × AreOfFile d live log events × AnswersStatus d here events asked ending text

-- the same by what stood in that file
abbrev pub AnswersOn : Database → (bound : ℕ) → LiveFile → (log : List ℕ)
    → (asked : List (List ℕ)) → Shown → List ℕ → Type 0
AnswersOn d bound live log asked ending text = (here : Line) × BeginsBy d bound live here
    × AnswersAt d here live log asked ending text

-- the same by the text of the database
abbrev pub AnswersText : (base : List ℕ) → NamedAsk → LiveFile → (log : List ℕ) → Shown → List ℕ
    → Type 0
AnswersText base ask live log ending text = (d : Database) × Spells (Some base) [] d []
    × AnswersOn d ask.session.bound (file_named ask.session.live live) log ask.names ending text

-- how it ends where nothing but failures is shown
abbrev pub ending_for : List ℕ → Shown
ending_for [] = shown.Up
ending_for (byte ∷ bytes) = shown.NotUp

-- an answer as it is shown with the failures of a text: services that are down with their failures,
-- and unknown those that a command was moving which was cut short; or nothing but failures; and one
-- that is refused as it is
abbrev pub IsShownAs : (only cut : Bool) → (failed : List ℕ) → (ending : Shown) → (text : List ℕ)
    → Shown → List ℕ → Type 0
IsShownAs only cut failed shown.Refused text end seen = (end ≡ shown.Refused) × (seen ≡ text)
IsShownAs only cut failed ending text end seen =
    (seen ≡ shown_text only cut (listed failed) text)
    × (end ≡ (if only then ending_for seen else ending))

-- an answer of a session whose file does not exist: no line, since nothing is known of its
-- services; and one that is refused as it is
abbrev pub IsUnheld : (only : Bool) → (ending : Shown) → (text : List ℕ) → Shown → List ℕ → Type 0
IsUnheld only shown.Refused text end seen = (end ≡ shown.Refused) × (seen ≡ text)
IsUnheld only ending text end seen =
    (seen ≡ []) × (end ≡ (if only then shown.Up else ending))

-- an answer as it is shown of a file
abbrev pub IsShownOf : LiveFile → (only cut : Bool) → (failed : List ℕ) → (ending : Shown)
    → (text : List ℕ) → Shown → List ℕ → Type 0
IsShownOf file.Missing only cut failed ending text end seen = IsUnheld only ending text end seen
IsShownOf (file.Text bytes) only cut failed ending text end seen =
    IsShownAs only cut failed ending text end seen
IsShownOf (file.Unread fault) only cut failed ending text end seen =
    IsShownAs only cut failed ending text end seen

-- what was read of a run log: its text, and whether its command was cut short
pub record RunLog : Type 0 where
  pub text : List ℕ
  pub is_cut : Bool

-- the same of a value of the program
abbrev pub run_log_of : ReadLog → RunLog
run_log_of log = record { text = log.text.now; is_cut = log.is_cut }

-- the answer of `status` with the failures of a text
abbrev pub AnswersShown : (base : List ℕ) → NamedAsk → LiveFile → RunLog → (failed : List ℕ)
    → Shown → List ℕ → Type 0
AnswersShown base ask live log failed ending text = (end : Shown) × (lines : List ℕ)
    × AnswersText base ask live log.text end lines
    × IsShownOf live ask.failed log.is_cut failed end lines ending text

-- the lines of an answer: with the times by the log of commands, where each transition is reported
abbrev pub with_times : Verbosity → (times : List ℕ) → Shown → (lines : List ℕ) → List ℕ
with_times Quiet times ending lines = lines
with_times Failures times ending lines = lines
with_times Transitions times shown.Refused lines = lines
with_times Transitions times shown.Up lines = timed_text times lines
with_times Transitions times shown.NotUp lines = timed_text times lines

-- the answer of `status` with the failures of a text and the times of another
abbrev pub AnswersTimed : (base : List ℕ) → NamedAsk → LiveFile → RunLog
    → (failed times : List ℕ) → Shown → List ℕ → Type 0
AnswersTimed base ask live log failed times ending text = (lines : List ℕ)
    × AnswersShown base ask live log failed ending lines
    × (text ≡ with_times ask.session.verbosity times ending lines)

-- why there is no answer: the text of the database or that of the session is refused, or can't be
-- read; or out of memory
abbrev pub IsUnanswered : (base : List ℕ) → NamedAsk → LiveFile → SessionFault → Type 0
IsUnanswered base ask live fault = IsUnspelled (Some base) [] fault
    ⊎ (((d : Database) × Spells (Some base) [] d []
    × IsFileFault (file_named ask.session.live live) d fault) ⊎ (fault ≡ Failed Memory))

-- and what is written then: nothing, or where the writer has failed a prefix of the answer
abbrev pub FailsStatus : (base : List ℕ) → NamedAsk → LiveFile → RunLog
    → (failed times : List ℕ) → SessionFault → (writer : Type 0)
    → (written gained : Option (List ℕ)) → Type 0
FailsStatus base ask live log failed times fault writer written gained =
    (IsUnanswered base ask live fault × (gained ≡ written))
    ⊎ ((fault ≡ Failed Write) × writer × ((ending : Shown) × (text : List ℕ)
    × AnswersTimed base ask live log failed times ending text
    × AppendsFront written gained text))

-- the status of how it ends
abbrev pub status_of : Shown → ℕ
status_of shown.Up = 0
status_of shown.NotUp = 3
status_of shown.Refused = 1

-- the answer was written whole, with the status of how it ends; or a fault is told. Of the failures
-- that are remembered and of the log of commands these were read
abbrev pub TellsStatus : (base : List ℕ) → NamedAsk → LiveFile → RunLog → (status : ℕ)
    → (writer : Type 0) → (written gained before after : Option (List ℕ)) → Type 0
TellsStatus base ask live log status writer written gained before after =
    (failed : List ℕ) × (times : List ℕ) × (((ending : Shown) × (text : List ℕ)
    × AnswersTimed base ask live log failed times ending text
    × Appends written gained text × (status ≡ status_of ending) × (after ≡ before))
    ⊎ ((fault : SessionFault) × FailsStatus base ask live log failed times fault
    writer written gained
    × IsTold fault status before after))
