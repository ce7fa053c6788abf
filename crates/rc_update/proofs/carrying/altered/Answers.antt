use Rattle.std.proofs.Common.{◌≡◌, ◌∙◌, inl, ℕ, ap, length, sym, true≢false, arith}
use Rattle.rc_model.specs.Names.{Has}
use Rattle.rc_model.proofs.SetMembers.{has_within}
use Rattle.rc_db.proofs.Pipelines.{all_passed, left_out}
use Rattle.rc_update.specs.Carrying.{IsAlteredUp, IsUnaltered}
use Rattle.rc_update.specs.Conversions.{conversions_of}
use Rattle.rc_update.proofs.PassingLemmas.{add_more, spared_next}
use Rattle.rc_update.proofs.carrying.altered.Goals as goal
use Rattle.rc_update.proofs.carrying.altered.Goals.{then-contains+in_ok-add_altered, else-contains}

pub loop-id-init : goal.loop-id-init
loop-id-init c = record {
  bound = c.in_ok-set.ensures.bound ∙ c.len.ensures.len ∙ ap length c.names.ensures.names;
  members = λ s. (
    λ has. absurd (c.in_ok-set.ensures.members s has),
    λ passed. absurd (omega (arith, passed.0)),
  );
  spared = λ s none. absurd (omega arith);
}

pub contains-requires : goal.contains-requires
contains-requires c =
    let long : length c.names-2.result.now ≡ length c.args.old.now.names =
    ap length c.names-2.ensures.names in omega arith

pub add_altered-requires-clause-id : goal.add_altered-requires-clause-id
add_altered-requires-clause-id c =
    let long : length c.names-2.result.now ≡ length c.args.old.now.names =
    ap length c.names-2.ensures.names in
    omega arith

pub loop-id-preserved : goal.loop-id-preserved
loop-id-preserved c =
    let id = c.loop-id.id in
    let list = conversions_of c.args.list.now in
    let Live : ℕ → Type 0 = Has c.args.live.now in
    let Fine : ℕ → Type 0 = IsUnaltered c.args.old.now c.args.new.now list in
    let Altered : ℕ → Type 0 = IsAlteredUp c.args.old.now c.args.new.now list Live in
    elim c.if-contains.branch [
      | then-contains+in_ok-add_altered w ↦
          let live : Live id = c.contains.ensures.0 w.if-contains.true in
          rw w.set-is (record {
            bound = w.in_ok-add_altered.ensures.bound ∙ c.loop-id.invariant.bound;
            members = add_more Live Fine c.loop-id.set w.add_altered.new.set id live
                c.loop-id.invariant.members w.in_ok-add_altered.ensures.members;
            spared = spared_next Live Fine c.loop-id.set w.add_altered.new.set id
                (λ s has. (w.in_ok-add_altered.ensures.members s).1 (inl has))
                (λ _ lacks. w.in_ok-add_altered.ensures.spared lacks)
                c.loop-id.invariant.spared;
          })
      | else-contains w ↦
          let none : Live id → ⊥ =
          λ has. true≢false (sym (c.contains.ensures.1 has) ∙ w.if-contains.false) in
          rw w.set-is (record {
            bound = c.loop-id.invariant.bound;
            members = left_out Altered c.loop-id.set id (λ altered. none altered.0)
                c.loop-id.invariant.members;
            spared = spared_next Live Fine c.loop-id.set c.loop-id.set id (λ s has. has)
                (λ live _. absurd (none live)) c.loop-id.invariant.spared;
          })
    ]

pub returns-clause-members : goal.returns-clause-members
returns-clause-members c =
    let long : length c.names-2.result.now ≡ length c.args.old.now.names =
    ap length c.names-2.ensures.names in
    all_passed (IsAlteredUp c.args.old.now c.args.new.now (conversions_of c.args.list.now)
    (Has c.args.live.now)) c.loop-id.set c.loop-id.id (length c.args.live.now) (omega arith)
    (λ s altered. has_within c.args.live.now s altered.0) c.loop-id.invariant.members

pub returns-clause-spared : goal.returns-clause-spared
returns-clause-spared c s live lacks =
    let long : length c.names-2.result.now ≡ length c.args.old.now.names =
    ap length c.names-2.ensures.names in
    c.loop-id.invariant.spared s (omega (arith, has_within c.args.live.now s live)) live lacks
