-- The names of lines, line by line.
use Rattle.std.proofs.Common.{◌≡◌, ℕ, zero, suc, ◌+◌, ◌<◌, Bool, true, false, cond, List, [], ◌∷◌}
use Rattle.std.proofs.Common.{◌++◌, length, get_or, take, map, filter, All, arith, sym, ap, subst}
use Rattle.std.proofs.Common.{◌∙◌}
use Rattle.std.proofs.lemmas.List.{take_more, map-append}
use Rattle.std.proofs.lemmas.List.Elements.{All-head, All-tail, All-cons, All-nil, filter-append}
use Rattle.rc_source.specs.Texts.{counts, trimmed_line}

module _ {X : Type 0} (now : X → List ℕ) where
  -- the names of lines
  abbrev pub named : List X → List (List ℕ)
  named lines = filter counts (map trimmed_line (map now lines))

  named-append : (xs ys : List X) → named (xs ++ ys) ≡ named xs ++ named ys
  named-append xs ys =
      ap (λ l. filter counts (map trimmed_line l)) (map-append now xs ys)
      ∙ ap (filter counts) (map-append trimmed_line (map now xs) (map now ys))
      ∙ filter-append counts (map trimmed_line (map now xs)) (map trimmed_line (map now ys))

  -- one more line
  pub named_more : (xs : List X) (i : ℕ) (d : X) → i < length xs
      → named (take (i + 1) xs) ≡ named (take i xs) ++ named (get_or xs i d ∷ [])
  named_more xs i d within =
      ap named (take_more xs i d within) ∙ named-append (take i xs) (get_or xs i d ∷ [])

  module _ (P : List ℕ → Type 0) where
    first : (b : Bool) (t : List ℕ) (ts : List (List ℕ)) → All P (cond b (t ∷ ts) ts)
        → All P (cond b (t ∷ []) [])
    first true t ts all = All-cons P t [] (All-head P t ts all) (All-nil P)
    first false t ts all = All-nil P

    rest : (b : Bool) (t : List ℕ) (ts : List (List ℕ)) → All P (cond b (t ∷ ts) ts) → All P ts
    rest true t ts all = All-tail P t ts all
    rest false t ts all = all

    -- what holds of all names holds of those of one line
    pub one_of_all : (xs : List X) (i : ℕ) (d : X) → i < length xs → All P (named xs)
        → All P (named (get_or xs i d ∷ []))
    one_of_all [] i d within all = absurd (omega arith)
    one_of_all (x ∷ xs) zero d within all =
        first (counts (trimmed_line (now x))) (trimmed_line (now x)) (named xs) all
    one_of_all (x ∷ xs) (suc i) d within all =
        one_of_all xs i d (omega arith)
        (rest (counts (trimmed_line (now x))) (trimmed_line (now x)) (named xs) all)

-- the one name of a line that counts
pub one_name : (P : List ℕ → Type 0) (name line : List ℕ) → name ≡ line → counts name ≡ true
    → All P (cond (counts line) (line ∷ []) []) → P name
one_name P name line e counted all =
    let here : All P (cond (counts name) (name ∷ []) []) =
    subst (λ l. All P (cond (counts l) (l ∷ []) [])) (sym e) all in
    All-head P name [] (subst (λ b. All P (cond b (name ∷ []) [])) counted here)

-- a line that does not count gives no name, and any other gives one
pub none_of_line : (line trimmed : List ℕ) → line ≡ trimmed → counts line ≡ false
    → filter counts (trimmed ∷ []) ≡ []
none_of_line line trimmed e uncounted =
    ap (λ l. filter counts (l ∷ [])) (sym e) ∙ ap (λ b. cond b (line ∷ []) []) uncounted

pub one_of_line : (line trimmed : List ℕ) → line ≡ trimmed → counts line ≡ true
    → filter counts (trimmed ∷ []) ≡ line ∷ []
one_of_line line trimmed e counted =
    ap (λ l. filter counts (l ∷ [])) (sym e) ∙ ap (λ b. cond b (line ∷ []) []) counted
