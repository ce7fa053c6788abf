-- What a session is launched for, and what it comes to.
use Rattle.std.specs.Prelude.{◌≡◌, ℕ, Bool, List, [], Option, None, Some, Result, Ok, Err, false}
use Rattle.std.specs.Prelude.{map, string_bytes}
use Rattle.clap.specs.Words.{Text as Path}
use Rattle.rc_graph.specs.declared.Way.{Way}
use Rattle.rc_model.specs.Database.{Database}
use Rattle.rc_model.specs.Line.{Line}
use Rattle.rc_model.specs.declared.Outcome.{Outcome}
use Rattle.rc_session.specs.Holding.{Holding}
use Rattle.rc_runner.specs.Failing.{fails_in, outcome_in}
use Rattle.rc_runner.specs.Moments.{IsMomentOf}
use Rattle.rc_runner.specs.Shell.{MayAnswer, scripts_of}
use Rattle.rc_streams.specs.Exchange.{Exchange}
use Rattle.rc_serve.specs.declared.ending.Ending.{Ending}
use Rattle.rc_serve.specs.declared.ending.Ending.TheVariants.{Done}
use Rattle.rc_serve.specs.declared.fault.ServeFault.{ServeFault}
use Rattle.rc_serve.specs.Ending.{EndsIn, IsDoneAs}
use Rattle.rc_serve.specs.Meeting.{Doing, IsDoneBy}
use Rattle.rc_serve.specs.SessionText.{FailsExactly, IsDoneFailing, IsTimeless}
use Rattle.rc_args.specs.OnceAsked.{once_saying_of}
use Rattle.rc_args.specs.Programs.{ByPrograms, ByTable, MakingAsk, controller_in, runner_in}
use Rattle.rc_cli.specs.Filing.{BeginsWith, Filing, HoldsBy}
use Rattle.rc_cli.specs.Finding.{AreFound}
use Rattle.rc_cli.specs.Once.{ServedOnce}
use Rattle.rc_cli.specs.Restarting.{Restarted}
use Rattle.rc_cli.specs.Serving.{Serves, StopsUpTo, session_on}
use Rattle.rc_cli.specs.Steps.{lowering}
use Rattle.rc_cli.specs.declared.sessions.service.Service.{Service}
use Rattle.rc_cli.specs.declared.sessions.service.Service.TheVariants.{Lines, Line as OneLine}
use Rattle.rc_cli.specs.declared.sessions.service.Service.TheVariants.{Restart}

-- what a session comes to where commands are done so and end so: the file that is named, what its
-- store held and holds, what went through its devices, and the session before and after
abbrev pub Served : Type 1
Served = Option Path → (was is : Option (List ℕ)) → Doing → EndsIn → Exchange
    → Holding → Holding → Type 0

-- it is of lines, and then this holds
abbrev pub OfLines : Service → Type 0 → Type 0
OfLines Lines P = P
OfLines other P = ⊥

-- it was served, to its end, or up to a fault if it was begun: all lines of the input, which end as
-- done; or one line or a restart, with nothing read
abbrev pub ComesFor : Service → Result Ending ServeFault → Served
ComesFor Lines (Ok ending) path was is Does As io old new =
    (ending ≡ Done) × Serves (HoldsBy path was is) Does io old new
ComesFor Lines (Err fault) path was is Does As io old new =
    StopsUpTo fault (is ≡ was) (HoldsBy path was is) Does io old new
ComesFor (OneLine once) result path was is Does As io old new = (io.left ≡ io.input)
    × ServedOnce result path was is As (once_saying_of once.now) io.written io.gained old new
ComesFor (Restart names) result path was is Does As io old new = (io.left ≡ io.input)
    × Restarted result path was is As (lowering false (map string_bytes names.now))
    io.written io.gained old

-- commands are done with events that so many workers make with a gate of these answers and moments;
-- or as certain transitions fail, whoever makes them
abbrev pub done_by : (workers : ℕ) → (Answers : ℕ → Way → Outcome → Type 0)
    → (Gives : ℕ → Type 0) → Option (ℕ → Way → Bool) → Doing
done_by workers Answers Gives None = IsDoneBy workers Answers Gives
done_by workers Answers Gives (Some fails) = IsDoneFailing fails

-- where a gate lets exactly these fail, and no limit is reached
abbrev pub Lets : (Answers : ℕ → Way → Outcome → Type 0) → (Gives : ℕ → Type 0)
    → (input : Option (List ℕ)) → Option (ℕ → Way → Bool) → Type 0
Lets Answers Gives input None = Unit {0}
Lets Answers Gives input (Some fails) = FailsExactly Answers fails × IsTimeless Gives input

-- this holds where commands are done as it is asked: each transition of a list is one of the
-- database, these fail and no others, and no limit is reached; or so many workers, at most, make
-- events by these programs, with this limit for services that have none on their way
abbrev pub IsDoneFor : Database → (workers : ℕ) → MakingAsk → (Doing → EndsIn → Type 0) → Type 0
IsDoneFor d workers (ByTable listed) Comes =
    (table : List (ℕ × Way)) × AreFound d.names listed table
    × Comes (IsDoneFailing (fails_in table))
    (IsDoneAs workers (λ s way o. o ≡ outcome_in table s way) (IsMomentOf []))
IsDoneFor d workers (ByPrograms runner controller limit) Comes =
    let scripts = scripts_of d (runner_in runner) (controller_in controller) limit in
    Comes (IsDoneBy workers (MayAnswer scripts) (λ m. Unit {0}))
    (IsDoneAs workers (MayAnswer scripts) (λ m. Unit {0}))

-- a session was served from where it begins
pub record RunsGated (Comes : Served) (filing : Filing) (Does : Doing) (As : EndsIn) (d : Database)
    (io : Exchange) : Type 0 where
  pub start : Line
  pub new : Holding
  pub begins : BeginsWith d filing start
  pub served : Comes filing.path filing.was filing.is Does As io (session_on d start) new

-- and so where transitions are made as it is asked
abbrev pub RunsFor : Served → Filing → Database → (workers : ℕ) → MakingAsk → Exchange → Type 0
RunsFor Comes filing d workers making io =
    IsDoneFor d workers making (λ Does As. RunsGated Comes filing Does As d io)
