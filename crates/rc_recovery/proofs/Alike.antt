-- Two runs of a command after which the same is live lead to one line.
use Rattle.std.proofs.Common.{◌≡◌, ◌∙◌, ◌↔◌, inl, inr, ℕ, Bool, List, [], ◌∷◌, ◌++◌, Option}
use Rattle.std.proofs.Common.{sym, subst}
use Rattle.rc_model.specs.Names.{Has}
use Rattle.rc_model.specs.declared.Event.{Event}
use Rattle.rc_model.specs.Database.{Database}
use Rattle.rc_model.specs.Headline.{HasRun}
use Rattle.rc_model.specs.Line.{Line}
use Rattle.rc_model.specs.Plan.{IsPlanTo, KeptOfAsk, PlanSets, TargetOfAsk}
use Rattle.rc_model.specs.Run.{Course, IsLive, course_of}
use Rattle.rc_model.specs.Session.{Change, Command, Does, DoesByRun, EndsWith, MovesBy, Nothing}
use Rattle.rc_model.specs.Session.{Redo, Reported, Undo, Add, Delete, events_of}
use Rattle.rc_session.specs.Commands.{with_events}
use Rattle.rc_session.proofs.Excluding.{one_set, one_plan}
use Rattle.rc_session.proofs.Neighbours.{one_back, one_on}
use Rattle.rc_session.proofs.Determined.{one_move}
use Rattle.rc_script.specs.RunLines.{least_limited}
use Rattle.rc_recovery.specs.Ends.{last_stop, with_ends}
use Rattle.rc_recovery.specs.Reordered.{without_stops}
use Rattle.rc_recovery.specs.Recoveries.{IsLineAfter}
use Rattle.rc_recovery.proofs.Reading.{events_are}

-- the same services are live after these events as after those
abbrev pub SameLive : List Event → List Event → Type 0
SameLive es fs = (c : Course) (s : ℕ) → IsLive c es s ↔ IsLive c fs s

one_live : (needs : List (List ℕ)) (p q : PlanSets) (m n : Option ℕ) (es fs : List Event)
    (u v : List Bool) → p ≡ q → SameLive es fs → EndsWith (course_of needs p m) es u
    → EndsWith (course_of needs q n) fs v → u ≡ v
one_live needs p q m n es fs u v plan live eu ev =
    let c : Course = course_of needs q n in
    let ends : EndsWith (course_of needs q m) es u =
    subst (λ (x : PlanSets). EndsWith (course_of needs x m) es u) plan eu
    in
    one_set (IsLive c fs) u v (ends.bound ∙ sym ev.bound)
    (λ s. (λ h. (live c s).0 ((ends.members s).0 h), λ h. (ends.members s).1 ((live c s).1 h)))
    ev.members

abbrev ByWay : List Bool → Line → PlanSets → Type 0
ByWay up to plan = IsPlanTo up (Has to.current.live) Nothing plan

alike : (d : Database) (line : Line) (es fs : List Event) (x y : Reported) (a b : Line)
    → SameLive es fs → (command : Command)
    → DoesByRun d line (with_events command es) x a
    → DoesByRun d line (with_events (least_limited command) fs) y b → a ≡ b
alike d line es fs x y a b live (Change ask old) p q =
    let up = line.current.live in
    let table = line.current.table in
    let plan : p.plan ≡ q.plan = one_plan up (TargetOfAsk d table up ask) (KeptOfAsk d table up ask)
    p.plan q.plan p.task.1 q.task.1 in
    let same = one_live d.needs p.plan q.plan p.deadline q.deadline es fs p.live q.live plan live
    p.ends q.ends in
    one_move line (Change ask old) q.live a b
    (subst (λ (u : List Bool). MovesBy line (Change ask old) u a) same p.moved) q.moved
alike d line es fs x y a b live (Undo limit old) p q =
    let up = line.current.live in
    let back = one_back p.task.0 q.task.0 line p.task.1 q.task.1 in
    let plan : p.plan ≡ q.plan = one_plan up (Has q.task.0.current.live) Nothing p.plan q.plan
    (subst (λ (z : Line). ByWay up z p.plan) back p.task.2.leads) q.task.2.leads in
    let same = one_live d.needs p.plan q.plan p.deadline q.deadline es fs p.live q.live plan live
    p.ends q.ends in
    one_move line (Undo limit old) q.live a b
    (subst (λ (u : List Bool). MovesBy line (Undo limit old) u a) same p.moved) q.moved
alike d line es fs x y a b live (Redo limit old) p q =
    let up = line.current.live in
    let on = one_on line p.task.0 q.task.0 p.task.1 q.task.1 in
    let plan : p.plan ≡ q.plan = one_plan up (Has q.task.0.current.live) Nothing p.plan q.plan
    (subst (λ (z : Line). ByWay up z p.plan) on p.task.2.leads) q.task.2.leads in
    let same = one_live d.needs p.plan q.plan p.deadline q.deadline es fs p.live q.live plan live
    p.ends q.ends in
    one_move line (Redo limit old) q.live a b
    (subst (λ (u : List Bool). MovesBy line (Redo limit old) u a) same p.moved) q.moved
alike d line es fs x y a b live (Add name contents force) p q = absurd p.task
alike d line es fs x y a b live (Delete words force) p q = absurd p.task

-- what the laws say of ends and stops
abbrev pub SameLiveBy : (List Event → List Event) → Type 0
SameLiveBy more = (c : Course) (events : List Event) (s : ℕ)
    → IsLive c (more events) s ↔ IsLive c events s

same_through : (es fs gs : List Event) → SameLive es fs → SameLive gs fs → SameLive es gs
same_through es fs gs one two = λ c s.
    (λ h. (two c s).1 ((one c s).0 h), λ h. (one c s).1 ((two c s).0 h))

same_without : SameLiveBy without_stops → (events logged : List Event)
    → without_stops events ≡ logged → SameLive events logged
same_without stops events logged is = subst (SameLive events) is
    (λ c s. ((stops c events s).1, (stops c events s).0))

-- a command with a run is done by one
by_run : (d : Database) (line end : Line) (command : Command) (old events : List Event)
    (report : Reported) → HasRun command
    → Does d line (with_events (with_events (least_limited command) old) events) report end
    → DoesByRun d line (with_events (least_limited command) events) report end
by_run d line end (Change ask has) old events report run (inl does) = does
by_run d line end (Change ask has) old events report run (inr edit) = absurd edit.altered
by_run d line end (Undo limit has) old events report run (inl does) = does
by_run d line end (Undo limit has) old events report run (inr edit) = absurd edit.altered
by_run d line end (Redo limit has) old events report run (inl does) = does
by_run d line end (Redo limit has) old events report run (inr edit) = absurd edit.altered
by_run d line end (Add name contents force) old events report run does = absurd run
by_run d line end (Delete words force) old events report run does = absurd run

own_events : (d : Database) (line new : Line) (command : Command) (report : Reported)
    → DoesByRun d line command report new
    → HasRun command × DoesByRun d line (with_events command (events_of command)) report new
own_events d line new (Change ask events) report does = (tt, does)
own_events d line new (Undo limit events) report does = (tt, does)
own_events d line new (Redo limit events) report does = (tt, does)
own_events d line new (Add name contents force) report does = absurd does.task
own_events d line new (Delete words force) report does = absurd does.task

-- all events were logged: what is entered of them is the new line
pub complete : SameLiveBy with_ends → SameLiveBy (λ events. with_ends events ++ last_stop ∷ [])
    → SameLiveBy without_stops → (d : Database) (line new end : Line) (command : Command)
    (report : Reported) (first : Event) (more : List Event)
    → DoesByRun d line command report new → without_stops (events_of command) ≡ first ∷ more
    → IsLineAfter d line command (first ∷ more) end → end ≡ new
complete ends stop stops d line new end command report first more does all (told, inl cut) =
    let own = own_events d line new command report does in
    let logged : List Event = first ∷ more in
    let here : events_of (with_events (least_limited command) logged) ≡ logged =
    events_are command logged own.0
    in
    let live : SameLive (events_of command) (with_ends logged) =
    same_through (events_of command) logged (with_ends logged)
    (same_without stops (events_of command) logged all) (λ c s. ends c logged s)
    in
    sym (alike d line (events_of command) (with_ends logged) report told new end live command own.1
    (by_run d line end command logged (with_ends logged) told own.0
    (subst (λ (es : List Event). Does d line (with_events (with_events (least_limited command)
    logged) (with_ends es)) told end) here cut.0.1)))
complete ends stop stops d line new end command report first more does all (told, inr off) =
    let own = own_events d line new command report does in
    let logged : List Event = first ∷ more in
    let stopped : List Event = with_ends logged ++ last_stop ∷ [] in
    let here : events_of (with_events (least_limited command) logged) ≡ logged =
    events_are command logged own.0
    in
    let live : SameLive (events_of command) stopped =
    same_through (events_of command) logged stopped
    (same_without stops (events_of command) logged all) (λ c s. stop c logged s)
    in
    sym (alike d line (events_of command) stopped report told new end live command own.1
    (by_run d line end command logged stopped told own.0
    (subst (λ (es : List Event). Does d line (with_events (with_events (least_limited command)
    logged) (with_ends es ++ last_stop ∷ [])) told end) here off.3.1)))
