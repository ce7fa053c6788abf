-- Lines of words: bytes begin with the words of one line.
use Rattle.std.proofs.Common.{◌≡◌, ◌≢◌, ◌∙◌, ℕ, ◌⊎◌, inl, inr, Bool, true, false, List, [], ◌∷◌}
use Rattle.std.proofs.Common.{◌++◌, get_or, ◌==◌, eq-eqb, All, zero, suc, arith, refl, sym, ap}
use Rattle.std.proofs.Common.{subst, append_assoc}
use Rattle.std.proofs.lemmas.List.Elements.{All-head, All-tail}
use Rattle.std.proofs.lemmas.Bool.{false≢true}
use Rattle.std.proofs.lemmas.List.Splits.{slice_split-cons_yes, slice_split-cons_no}
use Rattle.std.specs.List.{join_with_byte, slice_split, onto_first}
use Rattle.std.proofs.lemmas.List.{append_cancel_left}
use Rattle.rc_dbtext.specs.Words.{IsPlain, ArePlain, line_of_words}

-- here a word ends
abbrev Ends : List ℕ → Type 0
Ends [] = ⊥
Ends (byte ∷ rest) = (byte ≡ 32) ⊎ (byte ≡ 10)

not_end : (byte : ℕ) (word rest : List ℕ) → IsPlain (byte ∷ word) → (byte ≡ 32) ⊎ (byte ≡ 10) → ⊥
not_end byte word rest plain ends =
    let here = All-head (λ b. (b ≢ 32) × (b ≢ 10)) byte word plain in
    elim ends [ inl space ↦ here.0 space | inr newline ↦ here.1 newline ]

-- bytes begin with one word, of all that end there
one_plain : (a b x y : List ℕ) → IsPlain a → IsPlain b → Ends x → Ends y → a ++ x ≡ b ++ y
    → (a ≡ b) × (x ≡ y)
one_plain [] [] x y plain_a plain_b ends_x ends_y same = (refl, same)
one_plain [] (d ∷ b) x y plain_a plain_b ends_x ends_y same =
    absurd (not_end d b y plain_b (subst Ends same ends_x))
one_plain (c ∷ a) [] x y plain_a plain_b ends_x ends_y same =
    absurd (not_end c a x plain_a (subst Ends (sym same) ends_y))
one_plain (c ∷ a) (d ∷ b) x y plain_a plain_b ends_x ends_y same =
    let tails : a ++ x ≡ b ++ y = cc in
    let rest = one_plain a b x y (All-tail (λ b. (b ≢ 32) × (b ≢ 10)) c a plain_a)
    (All-tail (λ b. (b ≢ 32) × (b ≢ 10)) d b plain_b) ends_x ends_y tails in
    let heads : c ≡ d = cc in
    let first : a ≡ b = rest.0 in
    (cc, rest.1)

-- what follows the first word of a line
abbrev behind_first : List (List ℕ) → List ℕ → List ℕ
behind_first [] x = 10 ∷ x
behind_first (word ∷ words) x = 32 ∷ (line_of_words (word ∷ words) ++ x)

pieces : (a j x : List ℕ) → ((a ++ 32 ∷ j) ++ 10 ∷ []) ++ x ≡ a ++ (32 ∷ ((j ++ 10 ∷ []) ++ x))
pieces a j x = simp append_assoc

first_word : (a : List ℕ) (ws : List (List ℕ)) (x : List ℕ)
    → line_of_words (a ∷ ws) ++ x ≡ a ++ behind_first ws x
first_word a [] x = append_assoc a (10 ∷ []) x
first_word a (w ∷ ws) x = pieces a (join_with_byte 32 (w ∷ ws)) x

ends_behind : (ws : List (List ℕ)) (x : List ℕ) → Ends (behind_first ws x)
ends_behind [] x = inr refl
ends_behind (w ∷ ws) x = inl refl

-- the words that follow a first one, and what is after the line, are read in one way
words_left : (ws vs : List (List ℕ)) (x y : List ℕ) → All IsPlain ws → All IsPlain vs
    → behind_first ws x ≡ behind_first vs y → (ws ≡ vs) × (x ≡ y)
words_left [] [] x y plain_ws plain_vs same = (refl, cc)
words_left [] (b ∷ vs) x y plain_ws plain_vs same =
    absurd (omega (arith, ap (λ (l : List ℕ). get_or l 0 0) same))
words_left (a ∷ ws) [] x y plain_ws plain_vs same =
    absurd (omega (arith, ap (λ (l : List ℕ). get_or l 0 0) same))
words_left (a ∷ ws) (b ∷ vs) x y plain_ws plain_vs same =
    let tails : line_of_words (a ∷ ws) ++ x ≡ line_of_words (b ∷ vs) ++ y =
    append_cancel_left (32 ∷ []) (line_of_words (a ∷ ws) ++ x) (line_of_words (b ∷ vs) ++ y) same in
    let first = one_plain a b (behind_first ws x) (behind_first vs y)
    (All-head IsPlain a ws plain_ws) (All-head IsPlain b vs plain_vs) (ends_behind ws x)
    (ends_behind vs y)
    (sym (first_word a ws x) ∙ tails ∙ first_word b vs y) in
    let rest = words_left ws vs x y (All-tail IsPlain a ws plain_ws)
    (All-tail IsPlain b vs plain_vs) first.1 in
    (λ k. first.0 k ∷ rest.0 k, rest.1)

-- the words of a line, and what is after it, are read in one way
pub words_once : (ws vs : List (List ℕ)) (x y : List ℕ) → ArePlain ws → ArePlain vs
    → line_of_words ws ++ x ≡ line_of_words vs ++ y → (ws ≡ vs) × (x ≡ y)
words_once [] vs x y plain_ws plain_vs same = absurd (omega (arith, plain_ws.some))
words_once (a ∷ ws) [] x y plain_ws plain_vs same = absurd (omega (arith, plain_vs.some))
words_once (a ∷ ws) (b ∷ vs) x y plain_ws plain_vs same =
    words_left (a ∷ ws) (b ∷ vs) x y plain_ws.each plain_vs.each (ap (λ (l : List ℕ). 32 ∷ l) same)

has_byte : (P : ℕ → Type 0) (front rest : List ℕ) (byte : ℕ) → All P (front ++ byte ∷ rest) → P byte
has_byte P [] rest byte each = All-head P byte rest each
has_byte P (c ∷ front) rest byte each =
    has_byte P front rest byte (All-tail P c (front ++ byte ∷ rest) each)

-- without a newline there is no line
pub no_newline : (bytes : List ℕ) → All (λ byte. byte ≢ 10) bytes
    → (ws : List (List ℕ)) (rest : List ℕ) → bytes ≡ line_of_words ws ++ rest → ⊥
no_newline bytes none ws rest same =
    let apart : bytes ≡ join_with_byte 32 ws ++ 10 ∷ rest =
    same ∙ append_assoc (join_with_byte 32 ws) (10 ∷ []) rest in
    let P : List ℕ → Type 0 = λ l. All (λ byte. byte ≢ 10) l in
    has_byte (λ byte. byte ≢ 10) (join_with_byte 32 ws) rest 10 (subst P apart none) refl

pub plain_cons : (byte : ℕ) (word : List ℕ) → byte ≢ 32 → byte ≢ 10 → IsPlain word
    → IsPlain (byte ∷ word)
plain_cons byte word no_space no_end plain zero d within = (no_space, no_end)
plain_cons byte word no_space no_end plain (suc k) d within = plain k d (omega arith)

pub each_cons : (word : List ℕ) (words : List (List ℕ)) → IsPlain word → All IsPlain words
    → All IsPlain (word ∷ words)
each_cons word words plain each zero d within = plain
each_cons word words plain each (suc k) d within = each k d (omega arith)

plain_onto : (byte : ℕ) (parts : List (List ℕ)) → byte ≢ 32 → byte ≢ 10 → ArePlain parts
    → ArePlain (onto_first byte parts)
plain_onto byte [] no_space no_end plain = absurd (omega (arith, plain.some))
plain_onto byte (part ∷ parts) no_space no_end plain = record {
  some = omega arith;
  each =
      each_cons (byte ∷ part) parts
      (plain_cons byte part no_space no_end (All-head IsPlain part parts plain.each))
      (All-tail IsPlain part parts plain.each);
}

-- the pieces of a line between its spaces are words
pub split_plain : (line : List ℕ) → All (λ byte. byte ≢ 10) line
    → ArePlain (slice_split (λ byte. byte == 32) line)
split_plain [] none = record {
  some = omega arith;
  each = each_cons [] [] (λ k d within. absurd (omega arith)) (λ k d within. absurd (omega arith));
}
split_plain (byte ∷ line) none =
    let rest = split_plain line (All-tail (λ b. b ≢ 10) byte line none) in
    elim (cases (byte == 32)) [
      | inl space ↦
          rw (slice_split-cons_yes (λ b. b == 32) byte line space)
          (record {
            some = omega arith;
            each =
                each_cons [] (slice_split (λ b. b == 32) line) (λ k d within. absurd (omega arith))
                rest.each;
          })
      | inr other ↦
          rw (slice_split-cons_no (λ b. b == 32) byte line other)
          (plain_onto byte (slice_split (λ b. b == 32) line)
          (λ same. false≢true (sym other ∙ eq-eqb byte 32 same))
          (All-head (λ b. b ≢ 10) byte line none) rest)
    ]
  where
    cases : (b : Bool) → (b ≡ true) ⊎ (b ≡ false)
    cases true = inl refl
    cases false = inr refl
