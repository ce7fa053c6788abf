-- What is known of a tree that tells what it holds.
use Rattle.std.proofs.Common.{◌≡◌, ◌↔◌, ℕ, ◌==◌, Bool, true, List, [], ◌∷◌, map, length, Option}
use Rattle.std.proofs.Common.{Some, None, refl, sym, ap, subst, ◌∙◌, true≢false, arith}
use Rattle.std.specs.Option.{option_map, is_some, IsSome}
use Rattle.std.specs.Bool.{IsTrue}
use Rattle.std.proofs.lemmas.Bool.Decides.{Decides-eqb}
use Rattle.rc_source.specs.Tree.{names_of}

-- what holds of what a tree tells
pub of_known : {A : Type 0} (P : A → Type 0) (a : A) → P a → (s : A) → Some a ≡ Some s → P s
of_known P a h s e = let same : a ≡ s = cc in subst P same h

-- a test that a value is there
pub some_iff : {V W : Type 0} (item : V → W) (b : Bool) (o : Option V) (w : Option W)
    → b ≡ is_some o → w ≡ option_map item o → IsTrue b ↔ IsSome w
some_iff item b None w e f = (
  λ yes. absurd (true≢false (sym yes ∙ e)),
  λ some. absurd (true≢false (sym (subst IsSome f some))),
)
some_iff item b (Some v) w e f = (λ yes. subst IsSome (sym f) refl, λ some. e)

-- the names of entries as they are seen
pub names_of-shown : {K V W : Type 0} (bytes : K → List ℕ) (item : V → W) (es : List (K × V))
    → names_of (map (λ e. (bytes e.0, item e.1)) es) ≡ map bytes (map (λ e. e.0) es)
names_of-shown bytes item [] = refl
names_of-shown bytes item (e ∷ es) = ap (λ rest. bytes e.0 ∷ rest) (names_of-shown bytes item es)

-- a list of no length
pub none_from_len : {X : Type 0} (xs : List X) (n : ℕ) → n ≡ length xs → (n == 0) ≡ true → xs ≡ []
none_from_len [] n e zero = refl
none_from_len (x ∷ xs) n e zero = let at : n ≡ 0 = (Decides-eqb n 0).0 zero in absurd (omega arith)
