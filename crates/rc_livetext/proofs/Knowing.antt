-- What states name, as it is looked up.
use Rattle.std.proofs.Common.{◌≡◌, ◌∙◌, ◌+◌, ◌<◌, ◌++◌, ◌∷◌, ℕ, Bool, true, false, not, List, []}
use Rattle.std.proofs.Common.{Some, length, take, get_or, slice_get, Contains, All, refl, sym, ap}
use Rattle.std.proofs.Common.{subst}
use Rattle.std.proofs.lemmas.Bool.{false≢true}
use Rattle.std.proofs.lemmas.List.{take_more}
use Rattle.std.proofs.lemmas.Option.{get_or_from_slice_get}
use Rattle.std.proofs.lemmas.Slice.Eq.{bytes_eq-Decides}
use Rattle.std.specs.Str.{bytes_eq}
use Rattle.rc_model.proofs.Places.{take_next}
use Rattle.rc_dbtext.specs.Words.{BundleText}
use Rattle.rc_dbtext.specs.Parts.{AreBundlesComplete, AreKnown, IsApart, IsKnown}
use Rattle.rc_livetext.specs.Text.{StateText}
use Rattle.rc_livetext.specs.Meaning.{IsKnownState}

-- texts that are not told apart are the same
pub same_text : (a b : List ℕ) → not (bytes_eq a b) ≡ false → a ≡ b
same_text a b told = by (bytes_eq a b) refl told
  where
    by : (answer : Bool) → bytes_eq a b ≡ answer → not answer ≡ false → a ≡ b
    by true is told = (bytes_eq-Decides a b).0 is
    by false is told = absurd (false≢true (sym told))

-- one name more that is the same
pub same_more : (xs ys : List (List ℕ)) (i : ℕ) (x y : List ℕ) → i < length xs → x ≡ get_or xs i x
    → slice_get ys i ≡ Some y → x ≡ y → take i xs ≡ take i ys → take (i + 1) xs ≡ take (i + 1) ys
same_more xs ys i x y within here there same so_far =
    take_more xs i x within
    ∙ (ap (λ (l : List (List ℕ)). l ++ get_or xs i x ∷ []) so_far
    ∙ ap (λ (z : List ℕ). take i ys ++ z ∷ []) (sym here ∙ same) ∙ sym (take_next ys i y there))

-- names of which one is told apart are others
pub other_names : (xs ys : List (List ℕ)) (i : ℕ) (x y : List ℕ) → x ≡ get_or xs i x
    → slice_get ys i ≡ Some y → (a b : List ℕ) → a ≡ x → b ≡ y → not (bytes_eq a b) ≡ true → xs ≡ ys
    → ⊥
other_names xs ys i x y here there a b is_a is_b told same =
    let at : get_or ys i x ≡ y = get_or_from_slice_get ys i y x there in
    let both : a ≡ b =
    is_a ∙ here ∙ ap (λ (l : List (List ℕ)). get_or l i x) same ∙ at ∙ sym is_b in
    false≢true (sym (ap not ((bytes_eq-Decides a b).1 both)) ∙ told)

-- bundles whose members are known have names of services alone
pub members_known : (names : List (List ℕ)) (bundles : List BundleText)
    → AreBundlesComplete names bundles
    → All (λ (b : BundleText). All (Contains names) b.members) bundles
unfolding AreKnown IsKnown
members_known names bundles complete = complete.0

module _ (names : List (List ℕ)) (s : StateText) (bundles : List BundleText)
    (same : bundles ≡ s.bundles) where
  pub known_bundles : IsKnownState names s → AreBundlesComplete names bundles
  unfolding AreKnown IsKnown IsApart
  known_bundles known = (
    subst (All (λ (b : BundleText). All (Contains names) b.members)) (sym same) known.members,
    subst (All (λ (b : BundleText). Contains names b.name → ⊥)) (sym same) known.apart,
  )

  pub bundles_known : All (Contains names) s.live → AreBundlesComplete names bundles
      → IsKnownState names s
  unfolding AreKnown IsKnown IsApart
  bundles_known live complete = record {
    live = live;
    members = subst (All (λ (b : BundleText). All (Contains names) b.members)) same complete.0;
    apart = subst (All (λ (b : BundleText). Contains names b.name → ⊥)) same complete.1;
  }
