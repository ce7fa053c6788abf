use Rattle.std.proofs.Common.{◌≡◌, ◌∙◌, ◌+◌, ◌<◌, ◌≤◌, Bool, Some, length, map, slice_get, ap}
use Rattle.std.proofs.Common.{subst, arith}
use Rattle.std.proofs.lemmas.List.{length-map}
use Rattle.std.proofs.lemmas.Option.{slice_get-map, slice_get_within}
use Rattle.std.specs.Bool.{OnTrue, OnFalse}
use Rattle.std.specs.Option.{option_map}
use Rattle.rc_model.specs.Database.{names_of}
use Rattle.rc_db.specs.Merging.{IsNext}
use Rattle.rc_db.proofs.Listing.{all_merged, flipped, next_merged, shown_more}
use Rattle.rc_db.proofs.list.all_names.Goals as goal
use Rattle.rc_db.proofs.list.all_names.Goals.{then-is_service_next, else-is_service_next}

pub overflow_add-turn-end : goal.overflow_add-turn-end
overflow_add-turn-end c = omega (arith, c.len.ensures.names.few, c.len-2.ensures.table.few)

pub is_service_next-requires-clause-id : goal.is_service_next-requires-clause-id
is_service_next-requires-clause-id c = c.loop-turn.invariant.services

pub is_service_next-requires-clause-place : goal.is_service_next-requires-clause-place
is_service_next-requires-clause-place c = c.loop-turn.invariant.bundles

pub is_service_next-requires-clause-more : goal.is_service_next-requires-clause-more
is_service_next-requires-clause-more c = omega (arith, c.loop-turn.invariant.turn)

pub is_service_next-requires-clause-apart : goal.is_service_next-requires-clause-apart
is_service_next-requires-clause-apart c = c.requires.apart

pub name_of-next-requires : goal.name_of-next-requires
name_of-next-requires c =
    let names = c.args.names.now in
    let Next : Bool → Type 0 =
    λ b. OnTrue b (IsNext names c.loop-turn.id (names_of c.args.table.now) c.loop-turn.place) in
    let next = subst Next c.if-is_service_next.true c.is_service_next.ensures.service in
    slice_get_within names c.loop-turn.id next.0 next.1

pub overflow_add-id : goal.overflow_add-id
overflow_add-id c = omega (arith, c.loop-turn.invariant.services, c.len.ensures.names.few)

pub at-requires : goal.at-requires
at-requires c =
    let bundles = names_of c.args.table.now in
    let Next : Bool → Type 0 =
    λ b. OnFalse b (IsNext bundles c.loop-turn.place c.args.names.now c.loop-turn.id) in
    let next = subst Next c.if-is_service_next.false c.is_service_next.ensures.bundle in
    omega (
      arith,
      slice_get_within bundles c.loop-turn.place next.0 next.1,
      length-map c.args.table.now (λ bundle. bundle.0),
    )

pub overflow_add-place : goal.overflow_add-place
overflow_add-place c = omega (arith, c.loop-turn.invariant.bundles, c.len-2.ensures.table.few)

pub loop-turn-preserved : goal.loop-turn-preserved
loop-turn-preserved c =
    let names = c.args.names.now in
    let bundles = names_of c.args.table.now in
    let id = c.loop-turn.id in
    let place = c.loop-turn.place in
    let shown = map (λ name. name.now) c.loop-turn.all.items in
    let more = map (λ name. name.now) c.push.new.self.items in
    let next = c.if-is_service_next.next in
    let pushed = shown_more (λ name. name.now) c.loop-turn.all.items c.push.new.self.items next
    c.in_ok-push.ensures.items in
    elim c.if-is_service_next.branch [
      | then-is_service_next w ↦
          let Next : Bool → Type 0 = λ b. OnTrue b (IsNext names id bundles place) in
          let first = subst Next w.if-is_service_next.true c.is_service_next.ensures.service in
          let there : slice_get names id ≡ Some next.now = rw w.next-is w.name_of-next.ensures in
          let within : id < length names = slice_get_within names id next.now there in
          rw (w.id-is, w.place-is) (record {
            turn = omega (arith, c.loop-turn.invariant.turn);
            services = omega arith;
            bundles = c.loop-turn.invariant.bundles;
            merged =
                next_merged names bundles id place shown more next.now c.requires.names
                c.len-2.ensures.table.order first there pushed c.loop-turn.invariant.merged;
          })
      | else-is_service_next w ↦
          let Next : Bool → Type 0 = λ b. OnFalse b (IsNext bundles place names id) in
          let first = subst Next w.if-is_service_next.false c.is_service_next.ensures.bundle in
          let named = slice_get-map (λ bundle. bundle.0) c.args.table.now place
          ∙ ap (option_map (λ bundle. bundle.0)) w.at.ensures in
          let there : slice_get bundles place ≡ Some next.now = rw w.next-is named in
          let within : place < length c.args.table.now = slice_get_within c.args.table.now place
          (w.at.result.0.now, w.at.result.1.now) w.at.ensures in
          rw (w.id-is, w.place-is) (record {
            turn = omega (arith, c.loop-turn.invariant.turn);
            services = c.loop-turn.invariant.services;
            bundles = omega arith;
            merged = flipped bundles names (place + 1) id more
                (next_merged bundles names place id shown more next.now c.len-2.ensures.table.order
                c.requires.names first there pushed
                (flipped names bundles id place shown c.loop-turn.invariant.merged));
          })
    ]

pub returns : goal.returns
returns c =
    let names = c.args.names.now in
    let bundles = names_of c.args.table.now in
    let first : length names ≤ c.loop-turn.id =
    omega (arith, c.loop-turn.invariant.turn, c.loop-turn.invariant.bundles) in
    let second : length bundles ≤ c.loop-turn.place =
    omega (
      arith,
      c.loop-turn.invariant.turn,
      c.loop-turn.invariant.services,
      length-map c.args.table.now (λ bundle. bundle.0),
    ) in
    all_merged names bundles c.loop-turn.id c.loop-turn.place
    (map (λ name. name.now) c.loop-turn.all.items) first second c.loop-turn.invariant.merged
