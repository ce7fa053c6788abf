-- Words taken from a line, one by one.
use Rattle.std.proofs.Common.{◌≡◌, ◌≢◌, ◌∙◌, ◌==◌, ◌<◌, ◌+◌, ℕ, List, [], ◌∷◌, ◌++◌, All, length}
use Rattle.std.proofs.Common.{take, drop, get_or, false, arith, refl, sym, ap, subst, append_assoc}
use Rattle.std.proofs.lemmas.List.{take_more, take-append-drop, get_or-take, get_or_default}
use Rattle.std.proofs.lemmas.List.{length-take}
use Rattle.std.proofs.lemmas.Bool.{ne_eqb}
use Rattle.std.proofs.lemmas.List.Elements.{All-head, All-tail, All-weaker}
use Rattle.std.proofs.lemmas.List.Splits.{slice_split_at, slice_split_none}
use Rattle.std.specs.List.{slice_split}

no_space : (word : List ℕ) → All (λ byte. byte ≢ 32) word → All (λ byte. (byte == 32) ≡ false) word
no_space word plain =
    All-weaker (λ byte. byte ≢ 32) (λ byte. (byte == 32) ≡ false)
    (λ byte other. ne_eqb byte 32 other)
    word plain

-- a word in front of a space is the first word
pub first_taken : (line word others : List ℕ) → line ≡ word ++ 32 ∷ others
    → All (λ byte. byte ≢ 32) word
    → slice_split (λ byte. byte == 32) line ≡ word ∷ slice_split (λ byte. byte == 32) others
first_taken line word others same plain =
    ap (slice_split (λ byte. byte == 32)) same
    ∙ slice_split_at (λ byte. byte == 32) word 32 others (no_space word plain) refl

-- without a space there is one word
pub last_taken : (line : List ℕ) → All (λ byte. byte ≢ 32) line
    → slice_split (λ byte. byte == 32) line ≡ line ∷ []
last_taken line plain = slice_split_none (λ byte. byte == 32) line (no_space line plain)

-- what holds of all holds of the one after some
pub one_of : (P : List ℕ → Type 0) (front rest : List (List ℕ)) (word : List ℕ)
    → All P (front ++ word ∷ rest) → P word
one_of P [] rest word each = All-head P word rest each
one_of P (first ∷ front) rest word each =
    one_of P front rest word (All-tail P first (front ++ word ∷ rest) each)

-- a line is cut at its first space
pub cut_at : (line front behind : List ℕ) (at : ℕ) → at < length line → get_or line at 0 ≡ 32
    → ((k : ℕ) → k < at → get_or line k 0 ≡ 32 → ⊥) → front ≡ take at line
    → behind ≡ drop (at + 1) line
    → (line ≡ front ++ 32 ∷ behind) × All (λ byte. byte ≢ 32) front
cut_at line front behind at within space none front_is behind_is =
    let more : take (at + 1) line ≡ take at line ++ 32 ∷ [] =
    take_more line at 0 within ∙ ap (λ (byte : ℕ). take at line ++ byte ∷ []) space in
    let whole : line ≡ front ++ 32 ∷ behind =
    sym (take-append-drop (at + 1) line)
    ∙ ap (λ (l : List ℕ). l ++ drop (at + 1) line) more
    ∙ append_assoc (take at line) (32 ∷ []) (drop (at + 1) line)
    ∙ ap (λ (l : List ℕ). l ++ 32 ∷ drop (at + 1) line) (sym front_is)
    ∙ ap (λ (l : List ℕ). front ++ 32 ∷ l) (sym behind_is) in
    let Other : List ℕ → Type 0 = λ l. All (λ byte. byte ≢ 32) l in
    let others : All (λ byte. byte ≢ 32) (take at line) = λ k d low same.
    let below : k < at = omega (arith, low, length-take at line) in
    none k below (get_or_default line k 0 d (omega (arith, below, within))
    ∙ sym (get_or-take at line k d below) ∙ same) in
    (whole, subst Other (sym front_is) others)
