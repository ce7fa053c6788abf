use Rattle.std.proofs.Common.{◌≡◌, ◌∙◌, ℕ, ap, length, sym, true≢false, arith}
use Rattle.rc_model.specs.Names.{Has}
use Rattle.rc_model.proofs.SetMembers.{has_within}
use Rattle.rc_update.specs.Carrying.{IsTwin}
use Rattle.rc_update.specs.Conversions.{conversions_of}
use Rattle.rc_update.proofs.PassingLemmas.{led_in, led_out, all_led}
use Rattle.rc_update.proofs.carrying.carried.Goals as goal
use Rattle.rc_update.proofs.carrying.carried.Goals.{then-contains, else-contains}

pub loop-id-init : goal.loop-id-init
loop-id-init c = record {
  bound = c.in_ok-carried.ensures.bound ∙ c.len.ensures.len ∙ ap length c.names.ensures.names;
  members = λ t. (
    λ has. absurd (c.in_ok-carried.ensures.members t has),
    λ from. absurd (omega (arith, from.1)),
  );
}

pub contains-requires : goal.contains-requires
contains-requires c =
    let long : length c.names-2.result.now ≡ length c.args.old.now.names =
    ap length c.names-2.ensures.names in omega arith

pub add_twin-requires-clause-id : goal.add_twin-requires-clause-id
add_twin-requires-clause-id c =
    let long : length c.names-2.result.now ≡ length c.args.old.now.names =
    ap length c.names-2.ensures.names in omega arith

pub loop-id-preserved : goal.loop-id-preserved
loop-id-preserved c =
    let Twins : ℕ → ℕ → Type 0 =
    IsTwin c.args.old.now c.args.new.now (conversions_of c.args.list.now) in
    elim c.if-contains.branch [
      | then-contains w ↦ rw w.carried-is (record {
        bound = w.add_twin.ensures.bound ∙ c.loop-id.invariant.bound;
        members =
            led_in (Has c.args.set.now) Twins c.loop-id.carried w.add_twin.new.set c.loop-id.id
            (c.contains.ensures.0 w.if-contains.true) c.loop-id.invariant.members
            w.add_twin.ensures.members;
      })
      | else-contains w ↦ rw w.carried-is (record {
        bound = c.loop-id.invariant.bound;
        members =
            led_out (Has c.args.set.now) Twins c.loop-id.carried c.loop-id.id
            (λ has. true≢false (sym (c.contains.ensures.1 has) ∙ w.if-contains.false))
            c.loop-id.invariant.members;
      })
    ]

pub returns-clause-members : goal.returns-clause-members
returns-clause-members c =
    let long : length c.names-2.result.now ≡ length c.args.old.now.names =
    ap length c.names-2.ensures.names in
    all_led (Has c.args.set.now)
    (IsTwin c.args.old.now c.args.new.now (conversions_of c.args.list.now)) c.loop-id.carried
    c.loop-id.id (length c.args.set.now) (omega arith) (λ s has. has_within c.args.set.now s has)
    c.loop-id.invariant.members
