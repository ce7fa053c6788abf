use Rattle.std.proofs.Common.{◌≡◌, ◌∙◌, ℕ, length, replicate, ap, subst, arith}
use Rattle.std.specs.Vec.{with_items}
use Rattle.std.proofs.lemmas.List.{with_items_is}
use Rattle.rc_model.specs.declared.Standing.TheVariants.{Up}
use Rattle.rc_core.proofs.Passing.{all_sunk}
use Rattle.rc_core.proofs.tables.mostly_up.Goals as goal

pub returns-clause-standing : goal.returns-clause-standing
returns-clause-standing c =
    let standings = c.in_ok-standings.standings in
    let new = c.fill_missing.new.list in
    let up = c.in_ok-standings.ensures.items_if_clones_equal (λ y e. e) in
    let long : length new ≡ length standings.items =
    c.fill_missing.ensures.bound ∙ ap length c.deref_mut.ensures.value in
    let items : (with_items standings new).items ≡ new =
    with_items_is standings new (omega (arith, long, standings.ok)) in
    rw items
    (all_sunk c.args.up.now c.deref_mut.result.now new (c.deref_mut.ensures.value
    ∙ subst (λ (n : ℕ). standings.items ≡ replicate n Up) c.bound.ensures.bound up)
    c.fill_missing.ensures)
