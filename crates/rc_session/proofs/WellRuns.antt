-- Each course has a settled run in which nothing fails: what may be taken is taken and ends well,
-- one after the other, until nothing may.
use Rattle.std.proofs.Common.{◌≡◌, ◌∙◌, ◌↔◌, ◌⊎◌, ◌<◌, ◌≤◌, ℕ, zero, suc, inl, inr, Bool, true}
use Rattle.std.proofs.Common.{false, List, [], ◌∷◌, ◌++◌, length, count_by}
use Rattle.std.proofs.Common.{Contains, refl, sym, subst, arith}
use Rattle.std.proofs.lemmas.List.Elements.{Contains-push}
use Rattle.rc_model.specs.Names.{Has, Holds}
use Rattle.rc_model.proofs.SetMembers.{has_or_lacks, has_within}
use Rattle.rc_model.specs.Graph.{Needs}
use Rattle.rc_graph.proofs.RowLemmas.{needer_known}
use Rattle.rc_model.specs.declared.Standing.{Standing}
use Rattle.rc_model.specs.declared.Standing.TheVariants.{Down, Rising, Up, Sinking}
use Rattle.rc_model.specs.declared.Outcome.TheVariants as outcome
use Rattle.rc_model.specs.declared.Event.{Event}
use Rattle.rc_model.specs.declared.Event.TheVariants.{Take, Done}
use Rattle.rc_model.specs.Run.{Course, IsPlanned, standing_of, WasTaken, IsHeldBy, NoneHeld}
use Rattle.rc_model.specs.Run.{HasFailed, IsStopped, CanSink, CanRise, CanMove, IsLeft, IsLegal}
use Rattle.rc_model.specs.Run.{IsRun, IsLive, IsSettled}
use Rattle.rc_model.specs.Beside.{IsCourse, TargetOf}
use Rattle.rc_core.proofs.Ends.{ends_by_what_failed, end_is_target}
use Rattle.rc_model.proofs.EventLemmas.{still_there, take_then_take, take_then_done, done_then_take}
use Rattle.rc_model.proofs.EventLemmas.{done_then_done, stop_then_take, stop_then_done}
use Rattle.rc_model.proofs.RunMembers.{fewer_in}
use Rattle.rc_core.proofs.MoveLemmas.{settled_from}
use Rattle.rc_core.proofs.Opening.{none_happened}
use Rattle.rc_core.proofs.Places.{planned_within, move_is_left}
use Rattle.rc_model.proofs.RunLemmas.{run_empty, run_push, done_was_taken}
use Rattle.rc_core.proofs.Stories.{story_of}
use Rattle.rc_session.proofs.Deciding.{Decided, both, either, not, some_below}
use Rattle.rc_session.proofs.Deciding.{IsSetOf, set_of, holds_of, needs_decided}

-- a run in which nothing is held, nothing failed and nobody stopped
pub record GoesWell (c : Course) (events : List Event) : Type 0 where
  pub run : IsRun c events
  pub none_held : NoneHeld events
  pub well : (s : ℕ) → HasFailed events s → ⊥
  pub runs : IsStopped events → ⊥

standing_decided : (a b : Standing) → Decided (a ≡ b)
standing_decided Down Down = inl refl
standing_decided Down Rising = inr (λ e. let bad : Down ≡ Rising = e in cc)
standing_decided Down Up = inr (λ e. let bad : Down ≡ Up = e in cc)
standing_decided Down Sinking = inr (λ e. let bad : Down ≡ Sinking = e in cc)
standing_decided Rising Down = inr (λ e. let bad : Rising ≡ Down = e in cc)
standing_decided Rising Rising = inl refl
standing_decided Rising Up = inr (λ e. let bad : Rising ≡ Up = e in cc)
standing_decided Rising Sinking = inr (λ e. let bad : Rising ≡ Sinking = e in cc)
standing_decided Up Down = inr (λ e. let bad : Up ≡ Down = e in cc)
standing_decided Up Rising = inr (λ e. let bad : Up ≡ Rising = e in cc)
standing_decided Up Up = inl refl
standing_decided Up Sinking = inr (λ e. let bad : Up ≡ Sinking = e in cc)
standing_decided Sinking Down = inr (λ e. let bad : Sinking ≡ Down = e in cc)
standing_decided Sinking Rising = inr (λ e. let bad : Sinking ≡ Rising = e in cc)
standing_decided Sinking Up = inr (λ e. let bad : Sinking ≡ Up = e in cc)
standing_decided Sinking Sinking = inl refl

module _ (c : Course) (course : IsCourse c) where
  taken_decided : (events : List Event) → IsRun c events → (s : ℕ) → Decided (WasTaken events s)
  taken_decided events run s = elim (story_of c events s run) [
    | inl stayed ↦ inr stayed.fresh
    | inr (inl out) ↦ inl (out.by, out.holder.0)
    | inr (inr back) ↦ inl (back.by, done_was_taken c events back.by s back.outcome run back.at)
  ]

  planned_decided : (s : ℕ) → Decided (IsPlanned c s)
  planned_decided s =
      either (Has c.lower s) (Has c.raise s) (has_or_lacks c.lower s) (has_or_lacks c.raise s)

  pub left_decided : (events : List Event) → IsRun c events → (s : ℕ) → Decided (IsLeft c events s)
  left_decided events run s =
      both (IsPlanned c s) (WasTaken events s → ⊥) (planned_decided s)
      (not (WasTaken events s) (taken_decided events run s))

  -- whether all that need a service are down, and whether all that it needs is up
  above_decided : (events : List Event) (s : ℕ)
      → Decided ((r : ℕ) → Needs c.needs r s → standing_of c events r ≡ Down)
  above_decided events s =
      elim (some_below (λ r. Needs c.needs r s × (standing_of c events r ≡ Down → ⊥))
      (length c.needs) (λ r low.
      both (Needs c.needs r s) (standing_of c events r ≡ Down → ⊥) (needs_decided c.needs r s)
      (not (standing_of c events r ≡ Down) (standing_decided (standing_of c events r) Down)))) [
        | inl found ↦ inr (λ all. found.2.1 (all found.0 found.2.0))
        | inr none ↦ inl (λ r need. elim (standing_decided (standing_of c events r) Down) [
          | inl down ↦ down
          | inr other ↦ absurd (none r (needer_known c.needs r s need) (need, other))
        ])
      ]

  below_decided : (events : List Event) (s : ℕ)
      → Decided ((t : ℕ) → Needs c.needs s t → standing_of c events t ≡ Up)
  below_decided events s =
      elim (some_below (λ t. Needs c.needs s t × (standing_of c events t ≡ Up → ⊥))
      (length c.needs) (λ t low.
      both (Needs c.needs s t) (standing_of c events t ≡ Up → ⊥) (needs_decided c.needs s t)
      (not (standing_of c events t ≡ Up) (standing_decided (standing_of c events t) Up)))) [
        | inl found ↦ inr (λ all. found.2.1 (all found.0 found.2.0))
        | inr none ↦ inl (λ t need. elim (standing_decided (standing_of c events t) Up) [
          | inl up ↦ up
          | inr other ↦ absurd (none t (course.lists.known s t need) (need, other))
        ])
      ]

  sink_decided : (events : List Event) → IsRun c events → (s : ℕ) → Decided (CanSink c events s)
  sink_decided events run s =
      elim (both (Has c.lower s) (standing_of c events s ≡ Up) (has_or_lacks c.lower s)
      (standing_decided (standing_of c events s) Up)) [
        | inr never ↦ inr (λ can. never (can.planned, can.up))
        | inl stands ↦ elim (taken_decided events run s) [
          | inl was ↦ inr (λ can. can.fresh was)
          | inr fresh ↦ elim (above_decided events s) [
            | inr some ↦ inr (λ can. some can.needed_by_none)
            | inl none ↦
                inl (record {
                  planned = stands.0;
                  up = stands.1;
                  fresh = fresh;
                  needed_by_none = none;
                })
          ]
        ]
      ]

  rise_decided : (events : List Event) → IsRun c events → (s : ℕ) → Decided (CanRise c events s)
  rise_decided events run s =
      elim (both (Has c.raise s) (standing_of c events s ≡ Down) (has_or_lacks c.raise s)
      (standing_decided (standing_of c events s) Down)) [
        | inr never ↦ inr (λ can. never (can.planned, can.down))
        | inl stands ↦ elim (taken_decided events run s) [
          | inl was ↦ inr (λ can. can.fresh was)
          | inr fresh ↦ elim (below_decided events s) [
            | inr some ↦ inr (λ can. some can.needs_up)
            | inl all ↦
                inl (record { planned = stands.0; down = stands.1; fresh = fresh; needs_up = all })
          ]
        ]
      ]

  -- some service may be taken, or none
  move_or_none : (events : List Event) → GoesWell c events
      → ((s : ℕ) × CanMove c events s) ⊎ ((s : ℕ) → CanMove c events s → ⊥)
  move_or_none events goes =
      elim (some_below (CanSink c events) (length c.needs)
      (λ s low. sink_decided events goes.run s)) [
        | inl sinks ↦ inl (sinks.0, inl sinks.2)
        | inr none ↦
            elim (some_below (CanRise c events) (length c.needs)
            (λ s low. rise_decided events goes.run s)) [
              | inl rises ↦ inl (rises.0, inr rises.2)
              | inr neither ↦ inr (λ s can. elim can [
                | inl sinks ↦ none s (planned_within c s course (inl sinks.planned)) sinks
                | inr rises ↦ neither s (planned_within c s course (inr rises.planned)) rises
              ])
            ]
      ]

  -- a service that may be taken is taken by the first worker, and ends well
  module _ (events : List Event) (s : ℕ) (goes : GoesWell c events) (can : CanMove c events s) where
    abbrev taking : List Event
    taking = events ++ Take 1 s ∷ []

    abbrev ending : List Event
    ending = taking ++ Done 1 s outcome.Ok ∷ []

    fresh : WasTaken events s → ⊥
    fresh = (move_is_left c events s can).1

    takes : IsLegal c events (Take 1 s)
    takes = ((omega arith, omega arith), goes.runs, goes.none_held 1, can)

    holds : IsHeldBy taking 1 s
    holds = (
      Contains-push events (Take 1 s),
      λ o done. fresh
          (1, done_was_taken c events 1 s o goes.run (done_then_take events 1 s 1 s o done)),
    )

    ends : IsLegal c taking (Done 1 s outcome.Ok)
    ends = ((omega arith, omega arith), holds)

    none_held_then : NoneHeld ending
    none_held_then w t held =
        elim (take_then_take events 1 s w t (take_then_done taking 1 s outcome.Ok w t held.0)) [
          | inl before ↦
              goes.none_held w t (
                before,
                λ o done. held.1 o
                    (still_there taking (Done 1 s outcome.Ok) (Done w t o)
                    (still_there events (Take 1 s) (Done w t o) done)),
              )
          | inr now ↦
              held.1 outcome.Ok
              (subst (λ v. Contains ending (Done v t outcome.Ok)) (sym now.0)
              (subst (λ u. Contains ending (Done 1 u outcome.Ok)) (sym now.1)
              (Contains-push taking (Done 1 s outcome.Ok))))
        ]

    well_then : (t : ℕ) → HasFailed ending t → ⊥
    well_then t failed = elim (done_then_done taking 1 s outcome.Ok failed.0 t failed.1 failed.2) [
      | inl before ↦
          goes.well t (
            failed.0,
            failed.1,
            done_then_take events 1 s failed.0 t failed.1 before,
            failed.3,
          )
      | inr now ↦ let bad : true ≡ false = sym now.2 ∙ failed.3 in cc
    ]

    one_on : GoesWell c ending
    one_on = record {
      run =
          run_push c taking (Done 1 s outcome.Ok) (run_push c events (Take 1 s) goes.run takes)
          ends;
      none_held = none_held_then;
      well = well_then;
      runs =
          λ stopped. goes.runs (
            stopped.0,
            stopped.1,
            stop_then_take events 1 s stopped.0 stopped.1
                (stop_then_done taking 1 s outcome.Ok stopped.0 stopped.1 stopped.2),
          );
    }

    still_left : (t : ℕ) → IsLeft c ending t → IsLeft c events t
    still_left t left = (
      left.0,
      λ was. left.1 (
        was.0,
        still_there taking (Done 1 s outcome.Ok) (Take was.0 t)
            (still_there events (Take 1 s) (Take was.0 t) was.1),
      ),
    )

    gone : IsLeft c ending s → ⊥
    gone left =
        left.1 (
          1,
          still_there taking (Done 1 s outcome.Ok) (Take 1 s)
              (Contains-push events (Take 1 s)),
        )

  left_set : (events : List Event) → IsRun c events
      → (set : List Bool) × IsSetOf (IsLeft c events) (length c.needs) set
  left_set events run =
      set_of (IsLeft c events) (length c.needs) (λ s low. left_decided events run s)

  left_holds : (events : List Event) (set : List Bool)
      → IsSetOf (IsLeft c events) (length c.needs) set → Holds set (IsLeft c events)
  left_holds events set is =
      holds_of (IsLeft c events) (length c.needs) set is
      (λ s left. planned_within c s course left.0)

  -- after one more service there is less left
  further : (events : List Event) (set : List Bool) (s : ℕ) → GoesWell c events
      → IsSetOf (IsLeft c events) (length c.needs) set → CanMove c events s →
      (more : List Event) × (rest : List Bool) × GoesWell c more
      × IsSetOf (IsLeft c more) (length c.needs) rest
      × (count_by (λ flag. flag) rest < count_by (λ flag. flag) set)
  further events set s goes is can =
      let on = one_on events s goes can in
      let left = left_set (ending events s goes can) on.run in
      let was = left_holds events set is in
      let now = left_holds (ending events s goes can) left.0 left.1 in (
        ending events s goes can,
        left.0,
        on,
        left.1,
        fewer_in set left.0 s (left.1.bound ∙ sym is.bound)
            (λ t has. (was t).1 (still_left events s goes can t ((now t).0 has)))
            ((was s).1 (move_is_left c events s can))
            (λ has. gone events s goes can ((now s).0 has)),
      )

  -- so at some time nothing may be taken
  to_the_end : (n : ℕ) (events : List Event) (set : List Bool) → GoesWell c events
      → IsSetOf (IsLeft c events) (length c.needs) set → count_by (λ flag. flag) set ≤ n →
      (done : List Event) × GoesWell c done × IsSettled c done
  to_the_end zero events set goes is few = elim (move_or_none events goes) [
    | inr none ↦ (events, goes, settled_from c events goes.run goes.none_held (inr none))
    | inl next ↦ let on = further events set next.0 goes is next.1 in absurd (omega (arith, on.4))
  ]
  to_the_end (suc n) events set goes is few = elim (move_or_none events goes) [
    | inr none ↦ (events, goes, settled_from c events goes.run goes.none_held (inr none))
    | inl next ↦
        let on = further events set next.0 goes is next.1 in
        to_the_end n on.0 on.1 on.2 on.3 (omega (arith, on.4))
  ]

  -- and that run ends in the target
  pub well_run : (done : List Event) × GoesWell c done × IsSettled c done
  well_run =
      let first : GoesWell c [] = record {
        run = run_empty c;
        none_held = λ w s held. none_happened (Take w s) held.0;
        well = λ s failed. none_happened (Done failed.0 s failed.1) failed.2;
        runs = λ stopped. none_happened _ stopped.2;
      } in
      let left = left_set [] first.run in
      to_the_end (count_by (λ flag. flag) left.0) [] left.0 first left.1 (omega arith)

  pub ends_there : (done : List Event) → GoesWell c done → IsSettled c done → (s : ℕ)
      → IsLive c done s ↔ TargetOf c s
  ends_there done goes settled s =
      let ended = ends_by_what_failed c done course settled goes.runs s in
      let target = end_is_target c (HasFailed done) s goes.well in
      (λ live. target.0 (ended.0 live), λ at. ended.1 (target.1 at))

  pub target_decided : (s : ℕ) → Decided (TargetOf c s)
  target_decided s =
      either (Has c.up s × (Has c.lower s → ⊥)) (Has c.raise s)
      (both (Has c.up s) (Has c.lower s → ⊥) (has_or_lacks c.up s)
      (not (Has c.lower s) (has_or_lacks c.lower s))) (has_or_lacks c.raise s)

  pub target_within : (s : ℕ) → TargetOf c s → s < length c.needs
  target_within s target = elim target [
    | inl stays ↦ let low : s < length c.up = has_within c.up s stays.0 in
        omega (arith, course.up_bound)
    | inr comes ↦ let low : s < length c.raise = has_within c.raise s comes in
        omega (arith, course.raise_bound)
  ]
