use Rattle.std.proofs.Common.{◌≡◌, ◌∙◌, ◌⊎◌, ⊎_elim, inl, inr, ℕ, List, slice_get, Some, refl}
use Rattle.std.proofs.Common.{subst, arith}
use Rattle.std.proofs.lemmas.List.{take_all}
use Rattle.rc_model.specs.Names.{Has, Holds}
use Rattle.rc_compile.specs.Rows.{rows}
use Rattle.rc_compile.specs.Book.{HasPair, ArePairedAt}
use Rattle.rc_compile.proofs.Mentioned.{part_next, part_none}
use Rattle.rc_compile.proofs.pipes.insert_paired.Goals as goal

pub loop-name-init : goal.loop-name-init
loop-name-init c = record {
  bound = refl;
  members =
      λ s. (
        λ has. inl has,
        λ either. ⊎_elim (λ old. old)
            (λ (name, there, at, pair). absurd (part_none c.args.from.now name there)) either,
      );
}

pub loop-name-preserved : goal.loop-name-preserved
loop-name-preserved c =
    let next = part_next c.args.from.now c.loop-name.name-index c.name-item.result (omega arith)
    c.name-item.is in
    let Paired : List ℕ → ℕ → Type 0 = λ name s. (slice_get c.args.names.now s ≡ Some name)
    × HasPair c.args.names.now (rows c.args.lists.now) name c.args.to.now in
    record {
      bound = c.insert_if_paired.ensures.bound ∙ c.loop-name.invariant.bound;
      members = λ s. (
        λ has. ⊎_elim
            (λ was. ⊎_elim (λ old. inl old)
            (λ (name, there, at, pair). inr (name, (next name).1 (inl there), at, pair))
            ((c.loop-name.invariant.members s).0 was))
            (λ (at, pair). inr (
              c.name-item.result,
              (next c.name-item.result).1 (inr refl),
              at,
              pair,
            ))
            ((c.insert_if_paired.ensures.members s).0 has),
        λ either. (c.insert_if_paired.ensures.members s).1 (⊎_elim
            (λ old. inl ((c.loop-name.invariant.members s).1 (inl old)))
            (λ (name, there, at, pair). ⊎_elim
            (λ earlier. inl ((c.loop-name.invariant.members s).1 (inr (name, earlier, at, pair))))
            (λ same. inr (subst (λ n. Paired n s) same (at, pair)))
            ((next name).0 there))
            either),
      );
    }

pub returns-clause-members : goal.returns-clause-members
returns-clause-members c =
    subst (λ (names : List (List ℕ)). Holds c.loop-name.set
    (λ s. Has c.args.set.now s ⊎ ArePairedAt c.args.names.now (rows c.args.lists.now) names
    c.args.to.now s))
    (take_all c.loop-name.name-index c.args.from.now (omega arith)) c.loop-name.invariant.members
