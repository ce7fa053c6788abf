-- Queries of a database and of the text after it: what each answers and when it is refused, and
-- what is read and printed for all of them.
use Rattle.std.specs.Prelude.{◌≡◌, ◌≢◌, ◌⊎◌, ℕ, Bool, true, false, List, [], Option, None, Some}
use Rattle.std.specs.Prelude.{Result, Ok, Err, IfSome, drop}
use Rattle.std.specs.Global.{Vec}
use Rattle.std.specs.Io.KnownBytes.{Appends}
use Rattle.clap.specs.Words.{Text as Word}
use Rattle.rc_model.specs.Database.{Database}
use Rattle.rc_model.specs.Plan.{Ask}
use Rattle.rc_select.specs.Ask.{ask_of}
use Rattle.rc_args.specs.Asked.{plan_asked}
use Rattle.rc_args.specs.DbAsked.{AsksDb, DbAsk, db_ask_of}
use Rattle.rc_dbtext.specs.Base.{IsTextFault, Spells, bytes_of}
use Rattle.rc_dbtext.specs.Opening.{IsOpenFault, Opens}
use Rattle.rc_dbtext.specs.declared.fault.TextFault.{TextFault}
use Rattle.rc_dbtext.specs.declared.fault.TextFault.TheVariants as text
use Rattle.rc_dbtext.specs.declared.opening.OpenFault.TheVariants.{OfText}
use Rattle.rc_streams.specs.Input.{AppendsFront, IsCause, failure_text, fault_line}
use Rattle.rc_streams.specs.declared.input.Failure.{Failure}
use Rattle.rc_streams.specs.declared.input.Failure.TheVariants as failures
use Rattle.rc_cli.specs.DbAnswer.{IsAnswerFor, IsAnswerTo, IsUnanswered}
use Rattle.rc_cli.specs.Faults.{IsReported, fault_status, fault_word}
use Rattle.rc_cli.specs.Named.{word_lines}
use Rattle.rc_cli.specs.PlanFaults.{IsNameFault}
use Rattle.rc_cli.specs.PlanText.{IsPlanFor, IsTextFor}
use Rattle.rc_cli.specs.Played.{IsReplay}
use Rattle.rc_cli.specs.Replay.{IsReplayFault, IsReplayFor}
use Rattle.rc_cli.specs.declared.fault.Fault.{Fault}
use Rattle.rc_cli.specs.declared.fault.Fault.TheVariants.{Text, Device}
use Rattle.rc_cli.specs.declared.queries.running.Query.{Query}
use Rattle.rc_cli.specs.declared.queries.running.Query.TheVariants as query

-- what is asked: a plan, what a script comes to, or something of the database alone, where this is
-- the text of the session to show
pub data QueryAsk : Type 0 where
  OfPlan : Ask → QueryAsk
  OfReplay : QueryAsk
  OfDb : DbAsk → (shown : Option (List ℕ)) → QueryAsk

abbrev pub query_ask_of : Query → QueryAsk
query_ask_of (query.Plan request) = OfPlan (ask_of request.now)
query_ask_of query.Replay = OfReplay
query_ask_of (query.Db request shown) = OfDb (db_ask_of request.now) (bytes_of shown)

-- what is after the database is read, too
abbrev pub reads_of : Query → Bool
reads_of (query.Plan request) = true
reads_of query.Replay = true
reads_of (query.Db request shown) = false

-- nothing is read: there is a base, and nothing is wanted beside it
abbrev pub ReadsNothing : Bool → Option (List ℕ) → Type 0
ReadsNothing false (Some base) = Unit {0}
ReadsNothing other base = ⊥

-- the input of a query among known bytes: none of them where nothing is read
abbrev pub input_of : Bool → (base known : Option (List ℕ)) → Option (List ℕ)
input_of true base known = known
input_of false None known = known
input_of false (Some base) known = Some []

-- what is so of the input of a query of the database alone
abbrev pub IfRead : Option (List ℕ) → Option (List ℕ) → (List ℕ → Type 0) → Type 0
IfRead base remaining P = IfSome (input_of false base remaining) P

-- the answer in a database with what is after it
abbrev pub IsAnswerIn : QueryAsk → Database → List ℕ → List ℕ → Type 0
IsAnswerIn (OfPlan ask) d rest answer = IsTextFor d (word_lines rest) ask answer
IsAnswerIn OfReplay d rest answer = IsReplay d rest answer
IsAnswerIn (OfDb ask shown) d rest answer = IsAnswerTo d ask shown answer

-- the answer about what is spelled
abbrev pub IsAnswerOf : QueryAsk → Option (List ℕ) → List ℕ → List ℕ → Type 0
IsAnswerOf (OfPlan ask) base input answer = IsPlanFor ask base input answer
IsAnswerOf OfReplay base input answer = IsReplayFor base input answer
IsAnswerOf (OfDb ask shown) base input answer = IsAnswerFor ask base shown input answer

-- when there is no answer there
abbrev pub IsFaultIn : QueryAsk → Database → List ℕ → Fault → Type 0
IsFaultIn (OfPlan ask) d rest fault = IsNameFault fault d (word_lines rest) ask
IsFaultIn OfReplay d rest fault = IsReplayFault d.names rest fault
IsFaultIn (OfDb ask shown) d rest fault = IsUnanswered d shown ask.question fault

-- when each refusal comes: those of the text, and then those of the query
abbrev pub IsRefusalOf : QueryAsk → Option (List ℕ) → List ℕ → Fault → Type 0
IsRefusalOf ask base input fault = (fault_status fault ≡ 1)
    × (((wrong : TextFault) × IsTextFault base input wrong × (wrong ≢ text.Memory)
    × (fault ≡ Text wrong))
    ⊎ ((d : Database) × (rest : List ℕ) × Spells base input d rest × IsFaultIn ask d rest fault))

-- a refusal holds, and a writer gains a prefix of the line that tells it
abbrev pub TellsRefusal : QueryAsk → Option (List ℕ) → List ℕ → (old new : Option (List ℕ)) →
    Type 0
TellsRefusal ask base input old new = (fault : Fault) × IsRefusalOf ask base input fault
    × AppendsFront old new (fault_line (fault_word fault))

-- the same of `plan`, of the words that ask
abbrev pub TellsFault : List (List ℕ) → Option (List ℕ) → List ℕ → (old new : Option (List ℕ)) →
    Type 0
TellsFault words base input old new =
    (ask : Ask) × (plan_asked words ≡ Some ask) × TellsRefusal (OfPlan ask) base input old new

-- the same of `db`
abbrev pub TellsDbFault : List Word → (base shown : Option (List ℕ)) → List ℕ →
    (old new : Option (List ℕ)) → Type 0
TellsDbFault words base shown input old new =
    (ask : DbAsk) × AsksDb words ask × TellsRefusal (OfDb ask shown) base input old new

-- the same of `replay`
abbrev pub TellsReplayFault : Option (List ℕ) → List ℕ → (old new : Option (List ℕ)) → Type 0
TellsReplayFault base input old new = TellsRefusal OfReplay base input old new

-- the answer about what was read
abbrev pub IsAnswerAt : QueryAsk → (base remaining after : Option (List ℕ)) → List ℕ → Type 0
IsAnswerAt ask base remaining after answer = (d : Database) × (input : List ℕ) × (start : ℕ)
    × Opens base remaining after d input start × IsAnswerIn ask d (drop start input) answer

-- a refusal of what was read
abbrev pub IsRefusalAt : QueryAsk → (base remaining after : Option (List ℕ)) → (failed : Type 0) →
    Fault → Type 0
IsRefusalAt ask base remaining after failed fault = (fault_status fault ≡ 1)
    × (((wrong : TextFault) × IsOpenFault base remaining after failed (OfText wrong)
    × (wrong ≢ text.Memory) × (fault ≡ Text wrong))
    ⊎ ((d : Database) × (input : List ℕ) × (start : ℕ) × Opens base remaining after d input start
    × IsFaultIn ask d (drop start input) fault))

-- what a query comes to, where this was read: an answer, a refusal, or a failure with its cause
abbrev pub HasOutcome : QueryAsk → (base remaining after : Option (List ℕ)) → (failed : Type 0) →
    Result (Vec ℕ) Fault → Type 0
HasOutcome ask base remaining after failed (Ok answer) =
    IsAnswerAt ask base remaining after answer.items
HasOutcome ask base remaining after failed (Err fault) =
    IsRefusalAt ask base remaining after failed fault
    ⊎ ((failure : Failure) × (fault ≡ Device failure) × IsCause remaining failed ⊥ failure)

-- an answer is written whole, or a prefix of it and that the writer has failed, which had failed
-- before or not
abbrev pub IsWritten : List ℕ → (status : ℕ) → (before failed : Type 0) →
    (old new told_old told_new : Option (List ℕ)) → Type 0
IsWritten answer status before failed old new told_old told_new =
    ((status ≡ 0) × Appends old new answer × (told_new ≡ told_old) × (failed → before))
    ⊎ ((status ≡ 111) × AppendsFront old new answer × failed
    × AppendsFront told_old told_new (fault_line (failure_text failures.Write)))

-- what is printed for an outcome, and the status: an answer, or with nothing of it a fault
abbrev pub IsPrinted : Result (Vec ℕ) Fault → (status : ℕ) → (before failed : Type 0) →
    (old new told_old told_new : Option (List ℕ)) → Type 0
IsPrinted (Ok answer) status before failed old new told_old told_new =
    IsWritten answer.items status before failed old new told_old told_new
IsPrinted (Err fault) status before failed old new told_old told_new =
    (new ≡ old) × (failed → before) × IsReported fault status told_old told_new
