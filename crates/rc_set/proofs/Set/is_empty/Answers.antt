use Rattle.rc_set.proofs.Flags.{bit_is}
use Rattle.rc_set.proofs.Set.is_empty.Goals as goal

pub returns : goal.returns
returns c =
    let same = bit_is c.self.invariant c.self.view_is c.deref.ensures.value in (
      λ yes s has. c.are_zero.ensures.0 yes s ((same s).1 has),
      λ none. c.are_zero.ensures.1 (λ s bit. none s ((same s).0 bit)),
    )
