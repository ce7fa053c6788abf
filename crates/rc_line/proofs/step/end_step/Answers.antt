use Rattle.std.proofs.Common.{◌≡◌, ◌∙◌, ◌∷◌, [], ℕ, inl, inr, length, length-append, refl, ap}
use Rattle.std.proofs.Common.{subst, sym, arith}
use Rattle.rc_model.specs.Database.{Bundles}
use Rattle.rc_model.specs.Line.{Entry}
use Rattle.rc_line.specs.Opening.{Opening}
use Rattle.rc_line.specs.Keeping.{state, aim_of, AreRooms}
use Rattle.rc_line.proofs.Closings.{apart_by}
use Rattle.rc_line.proofs.Neighbours.{rooms_by}
use Rattle.rc_line.proofs.step.end_step.Goals as goal

pub same-requires : goal.same-requires
same-requires c =
    let bound : length c.opening.inside.live ≡ length c.args.live.now =
    ap (λ (o : Opening). length o.live) c.opening.view_is ∙ c.requires.target in
    c.requires.end ∙ sym bound

pub push_back_reserved-requires : goal.push_back_reserved-requires
push_back_reserved-requires c = omega (arith, c.requires.room)

pub push_back_reserved-requires-then-same-2 : goal.push_back_reserved-requires-then-same-2
push_back_reserved-requires-then-same-2 c =
    omega (
      arith,
      ap length c.take_last-entry.ensures.items,
      length-append c.take_last-entry.new.stack.items (c.take_last-entry.result ∷ []),
      c.take_last-entry.ensures.capacity,
    )

pub push_back_reserved-requires-2 : goal.push_back_reserved-requires-2
push_back_reserved-requires-2 c =
    omega (
      arith,
      ap length c.take_last-entry.ensures.items,
      length-append c.take_last-entry.new.stack.items (c.take_last-entry.result ∷ []),
      c.take_last-entry.ensures.capacity,
    )

pub push_back_reserved-requires-3 : goal.push_back_reserved-requires-3
push_back_reserved-requires-3 c = omega (arith, c.requires.room)

pub entry_along-requires-clause-bound : goal.entry_along-requires-clause-bound
entry_along-requires-clause-bound c =
    let bound : length c.opening.inside.live ≡ length c.args.live.now =
    ap (λ (o : Opening). length o.live) c.opening.view_is ∙ c.requires.target in
    bound ∙ sym c.requires.end

pub entry_along-requires-clause-room : goal.entry_along-requires-clause-room
entry_along-requires-clause-room c =
    let aim : c.opening.inside.aim ≡ aim_of c.args.reached.ahead =
    ap (λ (o : Opening). o.aim) c.opening.view_is ∙ c.requires.aim in
    subst (λ (n : ℕ). AreRooms n c.opening.inside.far)
    (rooms_by c.args.reached.ahead _ (length c.opening.inside.live) aim).1 c.opening.invariant.1

pub entry_along-requires-2-clause-room : goal.entry_along-requires-2-clause-room
entry_along-requires-2-clause-room c =
    let bound : length c.opening.inside.live ≡ length c.args.live.now =
    ap (λ (o : Opening). length o.live) c.opening.view_is ∙ c.requires.target in
    let aim : c.opening.inside.aim ≡ aim_of c.args.reached.ahead =
    ap (λ (o : Opening). o.aim) c.opening.view_is ∙ c.requires.aim in
    subst (λ (n : ℕ). AreRooms n c.opening.inside.near)
    ((rooms_by c.args.reached.ahead _ (length c.opening.inside.live) aim).0 ∙ bound
    ∙ sym c.requires.end)
    c.opening.invariant.0

pub returns-then-same : goal.returns-then-same
returns-then-same c =
    rw (← c.opening.view_is) (
      c.take_last-entry.new.stack.items,
      c.take_last-entry.result,
      c.take_last-entry.ensures.items,
      inl (
        c.if-same.ensures.0 refl,
        refl,
        c.push_back_reserved.ensures.items,
        ap (λ (t : Bundles). state c.opening.inside.live t) c.replace.ensures,
      ),
    )

pub returns-then-same-2 : goal.returns-then-same-2
returns-then-same-2 c =
    rw (← c.opening.view_is) (
      c.take_last-entry.new.stack.items,
      c.take_last-entry.result,
      c.take_last-entry.ensures.items,
      inr (inl (
        apart_by _ _ c.if-same.ensures.1,
        c.if-same-2.ensures.0 refl,
        c.push_back_reserved-then-same-2.ensures.items,
        refl,
        refl,
      )),
    )

pub returns : goal.returns
returns c =
    rw (← c.opening.view_is) (
      c.take_last-entry.new.stack.items,
      c.take_last-entry.result,
      c.take_last-entry.ensures.items,
      inr (inr (
        c.entry_along-2.result,
        c.entry_along.result,
        apart_by _ _ c.if-same.ensures.1,
        apart_by _ _ c.if-same-2.ensures.1,
        c.push_back_reserved-2.ensures.items,
        c.push_back_reserved-3.ensures.items,
        rw c.overwrite.ensures refl,
        record {
          near_live = c.entry_along-2.ensures.live;
          near_edit = c.entry_along-2.ensures.edit ∙ c.opening.invariant.2;
          far_live = c.entry_along.ensures.live;
          far_edit =
              c.entry_along.ensures.edit ∙ ap (λ (d : Entry). d.edit) c.entry.view_is;
        },
      )),
    )
