use Rattle.std.proofs.Common.{inr, List, ℕ, refl, subst, Contains}
use Rattle.rc_compile.proofs.pipes.joins_other.Goals as goal

pub returns-then-some_unjoined : goal.returns-then-some_unjoined
returns-then-some_unjoined c =
    let (text, there, fails) = c.if-some_unjoined.ensures.0 refl in
    let Has : List (List ℕ) → Type 0 = λ l. Contains l text in (
      λ _. (
        text,
        inr (subst Has c.deref.ensures.value there),
        λ both. fails (c.is_kind-is_longrun.ensures.1 both.0, both.1),
      ),
      λ _. refl,
    )
