-- Bytes, lines and their fronts.
use Rattle.std.proofs.Common.{◌≡◌, ◌≢◌, ◌∙◌, ◌⊎◌, ◌==◌, inl, inr, ℕ, suc, Bool, true, false}
use Rattle.std.proofs.Common.{Contains, List, [], ◌∷◌, ◌++◌, if◌then◌else◌, refl, ap, sym, subst}
use Rattle.std.proofs.Common.{append_assoc, arith}
use Rattle.std.specs.List.{AllByRecursion, concat}
use Rattle.std.proofs.lemmas.Bool.{cases_Bool, cond-true, cond-false, eq-eqb, true≢false}
use Rattle.std.proofs.lemmas.List.{append-nil, append_cancel_left}
use Rattle.std.proofs.lemmas.List.Elements.{All-contains, All-from_recursion}
use Rattle.rc_recovery.specs.RunLog.{EndsWhole}
use Rattle.rc_recovery.specs.Files.{IsFront}

abbrev head : List ℕ → ℕ
head [] = 0
head (x ∷ xs) = x

abbrev tail : List ℕ → List ℕ
tail [] = []
tail (x ∷ xs) = xs

pub nothing : (a r : List ℕ) → a ++ r ≡ [] → (a ≡ []) × (r ≡ [])
nothing [] r e = (refl, e)
nothing (x ∷ a) r e = absurd (let bad : x ∷ (a ++ r) ≡ [] = e in cc)

-- of two fronts of a list one is the front of the other
abbrev pub OneLonger : List ℕ → List ℕ → Type 0
OneLonger u v = ((r : List ℕ) × (u ++ r ≡ v)) ⊎ ((r : List ℕ) × (v ++ r ≡ u))

pub one_longer : (u v x y : List ℕ) → u ++ x ≡ v ++ y → OneLonger u v
one_longer [] v x y e = inl (v, refl)
one_longer (a ∷ u) [] x y e = inr (a ∷ u, refl)
one_longer (a ∷ u) (b ∷ v) x y e =
    let same : a ≡ b = ap head e in
    elim (one_longer u v x y (ap tail e)) [
      | inl (r, is) ↦
          inl (r, ap (λ (z : ℕ). z ∷ (u ++ r)) same ∙ ap (λ (l : List ℕ). b ∷ l) is)
      | inr (r, is) ↦
          inr (r, ap (λ (z : ℕ). z ∷ (v ++ r)) (sym same) ∙ ap (λ (l : List ℕ). a ∷ l) is)
    ]

-- bytes without a newline
abbrev pub Bare : List ℕ → Type 0
Bare bytes = AllByRecursion (λ byte. byte ≢ 10) bytes

-- no newline stands in these bytes
abbrev pub has_newline : List ℕ → Bool
has_newline [] = false
has_newline (x ∷ xs) = if x == 10 then true else has_newline xs

pub no_newline : (bytes : List ℕ) → has_newline bytes ≡ false → Bare bytes
no_newline [] none = tt
no_newline (x ∷ xs) none = elim (cases_Bool (x == 10)) [
  | inl is ↦ absurd (true≢false (sym (cond-true (x == 10) true (has_newline xs) is) ∙ none))
  | inr other ↦ (
    λ e. true≢false (sym (eq-eqb x 10 e) ∙ other),
    no_newline xs (sym (cond-false (x == 10) true (has_newline xs) other) ∙ none),
  )
]

pub whole : (bytes : List ℕ) → has_newline bytes ≡ false → Contains bytes 10 → ⊥
whole bytes none at =
    All-contains (λ byte. byte ≢ 10) bytes 10
    (All-from_recursion (λ byte. byte ≢ 10) bytes (no_newline bytes none)) at refl

pub bare_line : (line : List ℕ) → (Contains line 10 → ⊥) → Bare line
bare_line [] none = tt
bare_line (x ∷ xs) none =
    (λ is. none (0, omega arith, is), bare_line xs (λ h. none (suc h.0, omega (arith, h.1), h.2)))

pub bare_front : (part rest : List ℕ) → Bare (part ++ rest) → Bare part
bare_front [] rest bare = tt
bare_front (x ∷ part) rest bare = (bare.0, bare_front part rest bare.1)

pub newline_shows : (a b : List ℕ) → Bare (a ++ 10 ∷ b) → ⊥
newline_shows [] b bare = bare.0 refl
newline_shows (x ∷ a) b bare = newline_shows a b bare.1

-- behind the last newline nothing stands that has none
last_newline : (a r body : List ℕ) → a ++ r ≡ body ++ 10 ∷ [] → Bare r → r ≡ []
last_newline [] r body is bare = absurd (newline_shows body [] (subst Bare is bare))
last_newline (x ∷ a) r [] is bare = (nothing a r (ap tail is)).1
last_newline (x ∷ a) r (y ∷ body) is bare = last_newline a r body (ap tail is) bare

pub whole_is_all : (a r b : List ℕ) → a ++ r ≡ b → EndsWhole b → Bare r → r ≡ []
whole_is_all a r b is (inl none) bare = (nothing a r (is ∙ none)).1
whole_is_all a r b is (inr ended) bare = last_newline a r ended.0 (is ∙ ended.1) bare

longer_whole : (a p b q r : List ℕ) → a ++ p ≡ b ++ q → EndsWhole b → Bare p → a ++ r ≡ b → a ≡ b
longer_whole a p b q r same whole bare is =
    let rest : p ≡ r ++ q =
    append_cancel_left a p (r ++ q)
    (same ∙ ap (λ (l : List ℕ). l ++ q) (sym is) ∙ append_assoc a r q)
    in
    let none : r ≡ [] = whole_is_all a r b is whole (bare_front r q (subst Bare rest bare)) in
    sym (append-nil a) ∙ ap (λ (l : List ℕ). a ++ l) (sym none) ∙ is

-- bytes have one front of whole lines behind which no newline stands
pub one_whole : (a p b q : List ℕ) → a ++ p ≡ b ++ q → EndsWhole a → EndsWhole b → Bare p → Bare q
    → a ≡ b
one_whole a p b q same whole_a whole_b bare_p bare_q = elim (one_longer a b p q same) [
  | inl (r, is) ↦ longer_whole a p b q r same whole_b bare_p is
  | inr (r, is) ↦ sym (longer_whole b q a p r (sym same) whole_a bare_q is)
]

-- the front of a line is all of it, or has no newline
pub torn_line : (line part : List ℕ) → Bare line → IsFront part (line ++ 10 ∷ [])
    → (part ≡ line ++ 10 ∷ []) ⊎ Bare part
torn_line line [] bare front = inr tt
torn_line [] (p ∷ ps) bare front =
    let rest : ps ≡ [] = (nothing ps front.0 (sym (ap tail front.1))).0 in
    inl (ap (λ (x : ℕ). x ∷ ps) (sym (ap head front.1)) ∙ ap (λ (l : List ℕ). 10 ∷ l) rest)
torn_line (b ∷ bs) (p ∷ ps) bare front =
    let same : b ≡ p = ap head front.1 in
    elim (torn_line bs ps bare.1 (front.0, ap tail front.1)) [
      | inl all ↦ inl (ap (λ (x : ℕ). x ∷ ps) (sym same) ∙ ap (λ (l : List ℕ). b ∷ l) all)
      | inr none ↦ inr (subst (λ (x : ℕ). x ≢ 10) same bare.0, none)
    ]

pub concat_more : (lines : List (List ℕ)) (line : List ℕ)
    → concat (lines ++ line ∷ []) ≡ concat lines ++ line
concat_more [] line = append-nil line
concat_more (first ∷ lines) line =
    ap (λ (l : List ℕ). first ++ l) (concat_more lines line)
    ∙ sym (append_assoc first (concat lines) line)
