-- A set whose words were lent and written over has what was written.
use Rattle.std.proofs.Common.{◌≡◌, ℕ, ◌<◌, ◌≤◌, ◌↔◌, List, false, length, sym, ap, ◌∙◌, subst}
use Rattle.std.proofs.Common.{arith}
use Rattle.std.proofs.lemmas.Bool.{false_from_ne_true}
use Rattle.std.proofs.lemmas.List.{with_items_is}
use Rattle.std.specs.Global.{Vec}
use Rattle.std.specs.Vec.{with_items}
use Rattle.rc_model.specs.Names.{Has}
use Rattle.rc_set.specs.Words.{has_bit, HasBit, flags_of, AreWords}
use Rattle.rc_model.proofs.SetMembers.{has_within}
use Rattle.rc_set.proofs.Flags.{flag_is, length_is}

-- the words of a set were lent to a call that wrote `new` in their place, where the bits of the
-- ids are set of which P holds, all of them below the bound
pub record Writes (bound : ℕ) (words : Vec ℕ) (lent new : List ℕ) (P : ℕ → Type 0) : Type 0 where
  pub are : AreWords bound words.items
  pub same : lent ≡ words.items
  pub long : length new ≡ length lent
  pub bits : (s : ℕ) → HasBit new s ↔ P s
  pub low : (s : ℕ) → P s → s < bound

module _ {bound : ℕ} {words : Vec ℕ} {lent new : List ℕ} {P : ℕ → Type 0}
    (writes : Writes bound words lent new P) where
  as_long : length new ≡ length words.items
  as_long = writes.long ∙ ap length writes.same

  -- the words of the set are what was written
  items : (with_items words new).items ≡ new
  items = with_items_is words new (omega (arith, as_long, words.ok))

  none_above : (s : ℕ) → bound ≤ s → has_bit new s ≡ false
  none_above s high = false_from_ne_true (has_bit new s) (λ set.
      let below : s < bound = writes.low s ((writes.bits s).0 set) in
      omega arith)

  -- they are words of its bound
  pub still_words : AreWords bound (with_items words new).items
  still_words = subst (AreWords bound) (sym items) (record {
    small = writes.are.small;
    enough = omega (arith, writes.are.enough, as_long);
    few = omega (arith, writes.are.few, as_long);
    clear = none_above;
  })

  -- and it has what was said
  pub has_written : (s : ℕ) → Has (flags_of bound (with_items words new).items) s ↔ P s
  has_written s =
      let now = (with_items words new).items in
      let flag = flag_is bound now s in (
        λ has.
            let within = has_within (flags_of bound now) s has in
            let below : s < bound = omega (arith, length_is bound now, within) in
            (writes.bits s).0
            (subst (λ (ws : List ℕ). HasBit ws s) items (sym (flag below) ∙ has)),
        λ holds.
            flag (writes.low s holds)
            ∙ subst (λ (ws : List ℕ). HasBit ws s) (sym items) ((writes.bits s).1 holds),
      )
