-- Byte order of names.
use Rattle.std.proofs.Common.{◌≡◌, ℕ, List, ap, ◌∙◌, false, refl, sym, true≢false}
use Rattle.std.proofs.lemmas.Cmp.{nat_list_cmp_total}
use Rattle.std.specs.Cmp.Lexicographic.{slice_cmp, texts_ties}
use Rattle.std.specs.Ordering.{nat_cmp, ordering_reverse, is_lt, is_eq}
use Rattle.std.specs.declared.cmp.Ordering.TheVariants.{Greater, Less, Equal}
use Rattle.std.specs.Str.{bytes_eq}
use Rattle.std.specs.declared.cmp.Ordering.{Ordering}
use Rattle.rc_model.specs.Names.{IsBefore}

-- a text that comes after another has it before itself
pub before_from_after : (a b : List ℕ) → slice_cmp nat_cmp a b ≡ Greater → IsBefore b a
before_from_after a b after = nat_list_cmp_total.antisymm b a ∙ ap ordering_reverse after

pub before_trans : (a b c : List ℕ) → IsBefore a b → IsBefore b c → IsBefore a c
before_trans a b c first second = nat_list_cmp_total.trans a b c first second

-- a text that is neither after nor equal to another is before it
pub before_from : (a b : List ℕ) → is_lt (slice_cmp nat_cmp b a) ≡ false → bytes_eq a b ≡ false
    → IsBefore a b
before_from a b not_after differ = by (slice_cmp nat_cmp a b) refl
  where
    by : (o : Ordering) → slice_cmp nat_cmp a b ≡ o → o ≡ Less
    by Less e = refl
    by Equal e = absurd (true≢false (sym (texts_ties a b ∙ ap is_eq e) ∙ differ))
    by Greater e = absurd (true≢false (sym (ap is_lt (before_from_after a b e)) ∙ not_after))
