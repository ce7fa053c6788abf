-- Where a gate lets exactly certain transitions fail, and no limit is reached, what is answered
-- hangs on these alone.
use Rattle.std.proofs.Common.{◌≡◌, ◌≢◌, ◌∙◌, ◌⊎◌, ◌==◌, ◌≤◌, ◌+◌, ◌-◌, ◌^◌, if◌then◌else◌, min, inl}
use Rattle.std.proofs.Common.{inr, ℕ, zero, suc, Bool, true, false, List, [], ◌∷◌, ◌++◌, Option}
use Rattle.std.proofs.Common.{Some, None, Result, Ok, Err, IfErr, OnOk, All, slice_index_or}
use Rattle.std.proofs.Common.{unwrap_or, refl, ap, sym, subst, arith}
use Rattle.std.proofs.lemmas.List.Elements.{All-contains}
use Rattle.rc_graph.specs.declared.Way.{Way}
use Rattle.rc_graph.specs.declared.Way.TheVariants.{Raise, Lower}
use Rattle.rc_model.specs.Database.{Database, IsDatabase}
use Rattle.rc_model.specs.Plan.{PlanSets}
use Rattle.rc_model.specs.declared.Outcome.{Outcome}
use Rattle.rc_model.specs.declared.Event.{Event}
use Rattle.rc_model.specs.declared.Event.TheVariants.{Done, Stop}
use Rattle.rc_model.specs.Run.{Course, course_of, IsStopped, IsLeft, IsRun}
use Rattle.rc_model.specs.Beside.{IsCourse}
use Rattle.rc_core.specs.Failing.{EndsAs}
use Rattle.rc_model.proofs.RunLemmas.{done_was_taken, legal_within, taken_was_planned}
use Rattle.rc_model.proofs.Standings.{false_unless}
use Rattle.rc_model.specs.Line.{Line}
use Rattle.rc_model.specs.Session.{Command, Change, Undo, Redo, Add, Delete, Reported, IsReportOf}
use Rattle.rc_model.specs.Session.{IsTask, EndsWith, MovesBy, deadline_of, IsLineOf}
use Rattle.rc_session.specs.Commands.{with_events}
use Rattle.rc_session.specs.Holding.{Holding}
use Rattle.rc_session.proofs.Courses.{task_is_course}
use Rattle.rc_session.proofs.EndsAlike.{ends_as_failing}
use Rattle.rc_session.proofs.Keeping.{answer_keeps, task_opening}
use Rattle.rc_session.proofs.Lists.{one_list}
use Rattle.rc_model.proofs.Telling.{lists_none}
use Rattle.rc_board.specs.Made.{IsSaid, AreMade, way_from}
use Rattle.rc_render.specs.ReportText.{report_text}
use Rattle.rc_script.specs.Says.{Saying, SaysNothing, SaysWrong, SaysStep, SaysDry, SaysLive}
use Rattle.rc_script.specs.Says.{SaysBundles, SaysJournal}
use Rattle.rc_streams.specs.Exchange.{Exchange}
use Rattle.rc_serve.specs.declared.fault.ServeFault.{ServeFault}
use Rattle.rc_serve.specs.declared.keeper.KeepFault.{KeepFault}
use Rattle.rc_serve.specs.Meeting.{IsDoneBy, Meets}
use Rattle.rc_serve.specs.Keeping.{Keeping, ServesFrontFailingKept, ServesFrontKept}
use Rattle.rc_serve.specs.Serving.{Serves, ServesAll, ServesFront}
use Rattle.rc_serve.specs.SessionText.{EndsFailing, FailsExactly, HasNoLimit, IsDoneFailing}
use Rattle.rc_serve.specs.SessionText.{IsTimeless, IsUnlimited, ServesFailing, limit_of}

-- a deadline comes of a limit, and is no earlier than the moment 1
some_or_none : (flag : Bool) (y x : ℕ) → (if flag then None else Some y) ≡ Some x
    → (flag ≡ false) × (y ≡ x)
some_or_none true y x is = let bad : None ≡ Some x = is in cc
some_or_none false y x is = (refl, ap (λ o. unwrap_or o 0) is)

not_zero : (limit : ℕ) → (limit == 0) ≡ false → limit ≢ 0
not_zero limit is none = let yes : (limit == 0) ≡ true = ap (λ (n : ℕ). n == 0) none in
    let bad : true ≡ false = sym yes ∙ is in cc

deadline_from : (limit x : ℕ) → deadline_of 0 limit ≡ Some x → (limit ≢ 0) × (1 ≤ x)
deadline_from limit x is =
    let both = some_or_none (limit == 0) (min (0 + limit) (2 ^ 64 - 1)) x is in
    let some : limit ≢ 0 = not_zero limit both.0 in
    let same : min (0 + limit) (2 ^ 64 - 1) ≡ x = both.1 in
    (some, grind (arith, some, same))

-- the deadline of a task is that of its command's limit
task_deadline : (d : Database) (here : Line) (command : Command) (plan : PlanSets)
    (deadline : Option ℕ) (x : ℕ) → IsTask d here command 0 plan deadline → deadline ≡ Some x
    → deadline_of 0 (limit_of command) ≡ Some x
task_deadline d here (Change ask events) plan deadline x task is = sym task.2 ∙ is
task_deadline d here (Undo limit events) plan deadline x task is =
    sym (task.2.timed (λ same. let bad : None ≡ Some x = sym (task.2.untimed same) ∙ is in cc)) ∙ is
task_deadline d here (Redo limit events) plan deadline x task is =
    sym (task.2.timed (λ same. let bad : None ≡ Some x = sym (task.2.untimed same) ∙ is in cc)) ∙ is
task_deadline d here (Add name contents force) plan deadline x task is = absurd task
task_deadline d here (Delete words force) plan deadline x task is = absurd task

module _ (fails : ℕ → Way → Bool) (workers : ℕ) (Answers : ℕ → Way → Outcome → Type 0)
    (Gives : ℕ → Type 0) (exact : FailsExactly Answers fails) where
  -- each transition that ended did so with success exactly where it does not fail
  ends_exactly : (c : Course) (events : List Event) → IsCourse c → IsRun c events
      → AreMade workers Answers Gives c.up events → EndsAs c fails events
  ends_exactly c events course run made w s o there =
      let said : Answers s (way_from c.up s) o =
      All-contains (IsSaid Answers Gives c.up) events (Done w s o) made.said there in
      let answer = exact s (way_from c.up s) o said in
      elim (taken_was_planned c events w s run (done_was_taken c events w s o run there)) [
        | inl low ↦
            let way : way_from c.up s ≡ Lower =
            ap (λ (flag : Bool). (if flag then Lower else Raise)) (course.falls s low) in (
              λ well would. elim would [
                | inl sinks ↦
                    let bad : true ≡ false =
                    sym sinks.1 ∙ subst (λ (x : Way). fails s x ≡ false) way (answer.0 well) in cc
                | inr rises ↦ course.rises s rises.0 (course.falls s low)
              ],
              λ not. answer.1
                  (subst (λ (x : Way). fails s x ≡ false) (sym way)
                  (false_unless (fails s Lower) (λ so. not (inl (low, so))))),
            )
        | inr high ↦
            let way : way_from c.up s ≡ Raise =
            ap (λ (flag : Bool). (if flag then Lower else Raise))
            (false_unless (slice_index_or c.up s false) (course.rises s high)) in (
              λ well would. elim would [
                | inl sinks ↦ course.rises s high (course.falls s sinks.0)
                | inr rises ↦
                    let bad : true ≡ false =
                    sym rises.1 ∙ subst (λ (x : Way). fails s x ≡ false) way (answer.0 well) in cc
              ],
              λ not. answer.1
                  (subst (λ (x : Way). fails s x ≡ false) (sym way)
                  (false_unless (fails s Raise) (λ so. not (inr (high, so))))),
            )
      ]

  -- where no limit is reached, no run is stopped
  never_stopped : (d : Database) (here : Line) (command : Command) (plan : PlanSets)
      (deadline : Option ℕ) (up : List Bool) (events : List Event)
      → IsTask d here command 0 plan deadline → IsRun (course_of d.needs plan deadline) events
      → AreMade workers Answers Gives up events
      → ((m : ℕ) → Gives m → m ≡ 0) ⊎ (limit_of command ≡ 0) → IsStopped events → ⊥
  never_stopped d here command plan deadline up events task run made timeless stopped =
      let legal =
      (legal_within (course_of d.needs plan deadline) events (Stop stopped.0 stopped.1) run
      stopped.2).2.2 in
      let from = deadline_from (limit_of command) legal.0
      (task_deadline d here command plan deadline legal.0 task legal.1) in
      elim timeless [
        | inl only ↦
            let zero : stopped.1 ≡ 0 =
            only stopped.1
            (All-contains (IsSaid Answers Gives up) events (Stop stopped.0 stopped.1) made.said
            stopped.2) in absurd (omega (arith, zero, from.1, legal.2))
        | inr none ↦ from.0 none
      ]

  module _ (d : Database) (here : Line) (db : IsDatabase d) (of : IsLineOf d here) where
    ended_failing : (command : Command) (events : List Event) (told : Reported) (text : List ℕ)
        (new : Line) (plan : PlanSets) (deadline : Option ℕ) (live : List Bool)
        → IsTask d here command 0 plan deadline
        → EndsWith (course_of d.needs plan deadline) events live → MovesBy here command live new
        → IsReportOf (course_of d.needs plan deadline) plan events live told
        → AreMade workers Answers Gives here.current.live events
        → text ≡ report_text d.names told → ((m : ℕ) → Gives m → m ≡ 0) ⊎ (limit_of command ≡ 0)
        → EndsFailing fails d here command text new
    ended_failing command events told text new plan deadline live task ends moved told_is
        made is timeless =
        let c = course_of d.needs plan deadline in
        let course = task_is_course d here command 0 plan deadline db of task in
        let made_up : AreMade workers Answers Gives plan.opening events =
        subst (λ (up : List Bool). AreMade workers Answers Gives up events)
        (sym (task_opening d here command 0 plan deadline task)) made in
        let by : EndsAs c fails events = ends_exactly c events course ends.settled.run made_up in
        let on : IsStopped events
        → ⊥ = never_stopped d here command plan deadline plan.opening events task ends.settled.run
        made_up timeless in
        let alike = ends_as_failing c plan events live told course ends told_is
        (false_unless told.stopped (λ yes. on (told_is.stopped.0 yes))) fails by in
        let none : told.untried ≡ [] = one_list (λ s. IsLeft c events s × IsStopped events)
        told.untried [] told_is.untried
        (lists_none (λ s. IsLeft c events s × IsStopped events) (λ s left. on left.1)) in
        record {
          plan = plan;
          deadline = deadline;
          live = live;
          lowered = told.lowered;
          raised = told.raised;
          failed = told.failed;
          blocked = told.blocked;
          kept = told.kept;
          task = task;
          bound = ends.bound;
          ends = alike.live;
          moved = moved;
          all_lowered = told_is.lowered;
          all_raised = told_is.raised;
          all_failed = alike.failed;
          all_blocked = alike.blocked;
          all_kept = told_is.kept;
          told =
              is
              ∙ ap (λ (untried : List ℕ). report_text d.names
              (record {
                opening = [];
                lowered = told.lowered;
                raised = told.raised;
                failed = told.failed;
                blocked = told.blocked;
                untried = untried;
                kept = told.kept;
                stopped = false;
                trace = [];
              })) none;
        }

    -- a command that was done with such a gate is done as the transitions that fail say
    done_failing : (command : Command) (text : List ℕ) (new : Line)
        → ((m : ℕ) → Gives m → m ≡ 0) ⊎ (limit_of command ≡ 0)
        → IsDoneBy workers Answers Gives d here command text new
        → IsDoneFailing fails d here command text new
    done_failing (Change ask old) text new timeless (events, told, made, does, is) = elim does [
      | inl run ↦
          inl (ended_failing (Change ask old) events told text new run.plan run.deadline run.live
          run.task run.ends run.moved run.is_report made is timeless)
      | inr edit ↦ absurd edit.altered
    ]
    done_failing (Undo limit old) text new timeless (events, told, made, does, is) = elim does [
      | inl run ↦
          inl (ended_failing (Undo limit old) events told text new run.plan run.deadline run.live
          run.task run.ends run.moved run.is_report made is timeless)
      | inr edit ↦ absurd edit.altered
    ]
    done_failing (Redo limit old) text new timeless (events, told, made, does, is) = elim does [
      | inl run ↦
          inl (ended_failing (Redo limit old) events told text new run.plan run.deadline run.live
          run.task run.ends run.moved run.is_report made is timeless)
      | inr edit ↦ absurd edit.altered
    ]
    done_failing (Add name contents force) text new timeless (events, told, made, does, is) =
        elim does [ inl run ↦ absurd run.task | inr edit ↦ inr (told, edit, is) ]
    done_failing (Delete words force) text new timeless (events, told, made, does, is) =
        elim does [ inl run ↦ absurd run.task | inr edit ↦ inr (told, edit, is) ]

    said_failing : (saying : Saying) (text : List ℕ) (new : Line)
        → ((m : ℕ) → Gives m → m ≡ 0) ⊎ HasNoLimit saying
        → Meets (IsDoneBy workers Answers Gives) d here saying text new
        → Meets (IsDoneFailing fails) d here saying text new
    said_failing SaysNothing text new timeless met = met
    said_failing SaysWrong text new timeless met = met
    said_failing (SaysStep command) text new timeless met = elim met [
      | inl done ↦ inl (done_failing command text new timeless done)
      | inr refused ↦ inr refused
    ]
    said_failing (SaysDry ask) text new timeless met = met
    said_failing SaysLive text new timeless met = met
    said_failing SaysBundles text new timeless met = met
    said_failing SaysJournal text new timeless met = met

    -- the line from then on is one of the database
    said_keeps : (saying : Saying) (text : List ℕ) (new : Line)
        → Meets (IsDoneBy workers Answers Gives) d here saying text new → IsLineOf d new
    said_keeps SaysNothing text new met = subst (IsLineOf d) (sym met.1) of
    said_keeps SaysWrong text new met = subst (IsLineOf d) (sym met.1) of
    said_keeps (SaysStep command) text new met = elim met [
      | inl done ↦ answer_keeps d here of (with_events command done.0) (Ok done.1) new done.3
      | inr refused ↦ subst (IsLineOf d) (sym refused.3) of
    ]
    said_keeps (SaysDry ask) text new met = subst (IsLineOf d) (sym met.1) of
    said_keeps SaysLive text new met = subst (IsLineOf d) (sym met.1) of
    said_keeps SaysBundles text new met = subst (IsLineOf d) (sym met.1) of
    said_keeps SaysJournal text new met = subst (IsLineOf d) (sym met.1) of

  -- lines that were met with such a gate
  serves_failing : (d : Database) (lines : List (List ℕ)) (here : Line) (text : List ℕ) (new : Line)
      → IsDatabase d → IsLineOf d here → ((m : ℕ) → Gives m → m ≡ 0) ⊎ All IsUnlimited lines
      → Serves (IsDoneBy workers Answers Gives) d here lines text new
      → Serves (IsDoneFailing fails) d here lines text new × IsLineOf d new
  serves_failing d [] here text new db of timeless served =
      (served, subst (IsLineOf d) (sym served.1) of)
  serves_failing d (bytes ∷ lines) here text new db of timeless
      (first, next, others, met, rest, whole) =
      let (saying, says, said) = met in
      let here_on : ((m : ℕ) → Gives m → m ≡ 0) ⊎ HasNoLimit saying = elim timeless [
        | inl only ↦ inl only
        | inr all ↦ inr (all 0 bytes (omega arith) saying says)
      ] in
      let more_on : ((m : ℕ) → Gives m → m ≡ 0) ⊎ All IsUnlimited lines = elim timeless [
        | inl only ↦ inl only
        | inr all ↦ inr (λ k x low. all (suc k) x (omega (arith, low)))
      ] in
      let more = serves_failing d lines next others new db
      (said_keeps d here db of saying first next said) more_on rest in (
        (
          first,
          next,
          others,
          (saying, says, said_failing d here db of saying first next here_on said),
          more.0,
          whole,
        ),
        more.1,
      )

  all_failing : (io : Exchange) (old new : Holding) → IsDatabase old.database
      → IsLineOf old.database old.line → IsTimeless Gives io.input
      → ServesAll (IsDoneBy workers Answers Gives) io old new
      → ServesAll (IsDoneFailing fails) io old new
  all_failing io old new db of timeless served = record {
    bytes = served.bytes;
    lines = served.lines;
    text = served.text;
    consumed = served.consumed;
    end = served.end;
    within = served.within;
    spelled = served.spelled;
    met =
        (serves_failing old.database served.lines old.line served.text new.line db of
        (elim timeless [
          | inl only ↦ inl only
          | inr none ↦
              inr (none io.left served.bytes [] served.lines served.consumed served.spelled)
        ]) served.met).0;
    told = served.told;
  }

  front_failing : (fault : ServeFault) (io : Exchange) (old new : Holding) → IsDatabase old.database
      → IsLineOf old.database old.line → IsTimeless Gives io.input
      → ServesFront (IsDoneBy workers Answers Gives) fault io old new
      → ServesFront (IsDoneFailing fails) fault io old new
  front_failing fault io old new db of timeless served =
      let some : ((m : ℕ) → Gives m → m ≡ 0) ⊎ All IsUnlimited (served.lines ++ served.more) =
      elim timeless [
        | inl only ↦ inl only
        | inr none ↦
            inr (none io.left served.bytes served.rest (served.lines ++ served.more) served.consumed
            served.spelled)
      ] in
      let first = serves_failing old.database served.lines old.line served.text served.here db of
      (elim some [ inl only ↦ inl only | inr all ↦ inr (all_front served.lines served.more all) ])
      served.met in
      record {
        bytes = served.bytes;
        rest = served.rest;
        lines = served.lines;
        text = served.text;
        here = served.here;
        more = served.more;
        answer = served.answer;
        consumed = served.consumed;
        spelled = served.spelled;
        met = first.0;
        one = served.one;
        met_more =
            (serves_failing old.database served.more served.here served.answer new.line db first.1
            (elim some [
              | inl only ↦ inl only
              | inr all ↦ inr (all_back served.lines served.more all)
            ]) served.met_more).0;
        told = served.told;
        stands = served.stands;
      }
    where
      all_front : (xs ys : List (List ℕ)) → All IsUnlimited (xs ++ ys) → All IsUnlimited xs
      all_front [] ys all k x low = absurd (omega (arith, low))
      all_front (y ∷ xs) ys all zero x low = all 0 x (omega arith)
      all_front (y ∷ xs) ys all (suc k) x low =
          all_front xs ys (λ j z within. all (suc j) z (omega (arith, within))) k x
          (omega (arith, low))

      all_back : (xs ys : List (List ℕ)) → All IsUnlimited (xs ++ ys) → All IsUnlimited ys
      all_back [] ys all = all
      all_back (y ∷ xs) ys all =
          all_back xs ys (λ j z within. all (suc j) z (omega (arith, within)))

  -- whatever came of serving
  pub text_failing : {A : Type 0} (result : Result A ServeFault) (io : Exchange) (old new : Holding)
      → IsDatabase old.database → IsLineOf old.database old.line → IsTimeless Gives io.input
      → OnOk result (ServesAll (IsDoneBy workers Answers Gives) io old new)
      → OnOk result (ServesFailing fails io old new)
  text_failing (Ok done) io old new db of timeless served =
      all_failing io old new db of timeless served
  text_failing (Err fault) io old new db of timeless served = tt

  pub front_text_failing : {A : Type 0} (result : Result A ServeFault) (May : KeepFault → Type 0)
      (was is : Keeping) (io : Exchange) (old new : Holding) → IsDatabase old.database
      → IsLineOf old.database old.line → IsTimeless Gives io.input
      → IfErr result
      (λ fault. ServesFrontKept (IsDoneBy workers Answers Gives) fault May was is io old new)
      → IfErr result (λ fault. ServesFrontFailingKept fault May was is fails io old new)
  unfolding front_failing
  front_text_failing (Ok done) May was is io old new db of timeless served = tt
  front_text_failing (Err fault) May was is io old new db of timeless served =
      (front_failing fault io old new db of timeless served.0, served.1)
