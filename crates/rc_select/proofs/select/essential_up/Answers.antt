use Rattle.std.proofs.Common.{◌+◌, ◌∙◌, ◌<◌, ◌≤◌, ℕ, ap, length, sym, true≢false, arith}
use Rattle.rc_model.specs.Names.{Has, Holds}
use Rattle.rc_model.specs.Plan.{IsEssentialUp}
use Rattle.rc_db.proofs.Pipelines.{left_out}
use Rattle.rc_select.proofs.PassingLemmas.{put_in, passed_to, passed_all}
use Rattle.rc_select.proofs.select.essential_up.Goals as goal
use Rattle.rc_select.proofs.select.essential_up.Goals.{then-is_essential, else-is_essential}

pub loop-service-init : goal.loop-service-init
loop-service-init c = record {
  low = omega arith;
  bound = c.in_ok-set.ensures.bound ∙ c.len.ensures.len ∙ ap length c.names.ensures.names;
  members = λ s. (
    λ has. absurd (c.in_ok-set.ensures.members s has),
    λ passed. absurd (omega (arith, passed.0)),
  );
}

pub loop-service-preserved : goal.loop-service-preserved
loop-service-preserved c =
    let service = c.in-Some.service in
    let next = c.in-Some.ensures.some in
    let low : service < length c.args.up.now = c.in-Some.ensures.below.0 in
    let low_next : service + 1 ≤ length c.args.up.now = omega arith in
    let Stays : ℕ → Type 0 = IsEssentialUp c.args.db.now (Has c.args.up.now) in
    let before : Holds c.loop-service.set (λ s. (s < service) × Stays s) =
    passed_to Stays c.loop-service.set c.loop-service.at service next.behind
    (λ s from within stays. next.least s from within stays.1) c.loop-service.invariant.members in
    elim c.if-is_essential.branch [
      | then-is_essential w ↦ rw w.set-is (record {
        low = low_next;
        bound = w.insert.ensures.bound ∙ c.loop-service.invariant.bound;
        members =
            put_in Stays c.loop-service.set w.insert.new.self service
            (c.is_essential.ensures.0 w.if-is_essential.true, next.holds) before
            w.insert.ensures.members;
      })
      | else-is_essential w ↦ rw w.set-is (record {
        low = low_next;
        bound = c.loop-service.invariant.bound;
        members =
            left_out Stays c.loop-service.set service
            (λ stays. true≢false (sym (c.is_essential.ensures.1 stays.0) ∙ w.if-is_essential.false))
            before;
      })
    ]

pub returns-clause-members : goal.returns-clause-members
returns-clause-members c =
    passed_all (IsEssentialUp c.args.db.now (Has c.args.up.now)) c.loop-service.set
    c.loop-service.at (λ s from stays. c.in_default.ensures.none s from stays.1)
    c.loop-service.invariant.members
