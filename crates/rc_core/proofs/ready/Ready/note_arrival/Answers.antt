use Rattle.std.proofs.Common.{◌≡◌, ℕ, List, inl, inr, true, false, Contains, length, refl, sym}
use Rattle.std.proofs.Common.{subst}
use Rattle.rc_model.specs.Names.{Has}
use Rattle.rc_core.proofs.MoveLemmas.{needs_within, needers_within}
use Rattle.rc_core.proofs.ready.Ready.note_arrival.Goals as goal

pub arrive-requires-clause-known : goal.arrive-requires-clause-known
arrive-requires-clause-known c =
    needs_within c.args.graph.now c.needs.result.now c.args.service
    (length c.args.self.now.waits.items) c.needs.ensures.list c.requires.lists.known
    c.requires.can.bound

pub arrive-requires-else-contains-clause-known : goal.arrive-requires-else-contains-clause-known
arrive-requires-else-contains-clause-known c =
    needers_within c.args.graph.now c.needed_by.result.now c.args.service
    (length c.args.self.now.waits.items) c.needed_by.ensures.same c.requires.can.bound

pub returns-then-contains-clause-arrived : goal.returns-then-contains-clause-arrived
returns-then-contains-clause-arrived c =
    let lower = c.if-contains.ensures.0 refl in
    record {
      those = c.arrive.ensures.arrived.those;
      same = λ t. (
        λ there.
            let h = (c.arrive.ensures.arrived.same t).0 there in
            let need = subst (λ (list : List ℕ). Contains list t) c.needs.ensures.list h.0 in
            inl (lower, c.requires.can.falls t lower need h.1, need),
        λ next. (c.arrive.ensures.arrived.same t).1 (elim next [
          | inl falls ↦ (
            subst (λ (list : List ℕ). Contains list t) (sym c.needs.ensures.list)
                falls.2,
            c.requires.can.missing t (inl falls),
          )
          | inr rises ↦ absurd (rises.0 lower)
        ]),
      );
      meets = c.arrive.ensures.arrived.meets;
      capacity = c.arrive.ensures.arrived.capacity;
    }

pub returns-else-contains-clause-arrived : goal.returns-else-contains-clause-arrived
returns-else-contains-clause-arrived c =
    let out : Has c.args.lower.now c.args.service → ⊥ = λ lower. let bad : false ≡ true =
    c.if-contains.ensures.1 lower in cc in
    record {
      those = c.arrive-else-contains.ensures.arrived.those;
      same = λ t. (
        λ there.
            let h = (c.arrive-else-contains.ensures.arrived.same t).0 there in
            let need = (c.needed_by.ensures.same t).0 h.0 in
            inr (out, c.requires.can.rises t out need h.1, need),
        λ next. (c.arrive-else-contains.ensures.arrived.same t).1 (elim next [
          | inl falls ↦ absurd (out falls.0)
          | inr rises ↦ (
            (c.needed_by.ensures.same t).1 rises.2,
            c.requires.can.missing t (inr rises),
          )
        ]),
      );
      meets = c.arrive-else-contains.ensures.arrived.meets;
      capacity = c.arrive-else-contains.ensures.arrived.capacity;
    }
