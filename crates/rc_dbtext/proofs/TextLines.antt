-- Lines of words that are UTF-8 are UTF-8.
use Rattle.std.proofs.Common.{◌≡◌, ◌≢◌, ◌∙◌, ◌<◌, ◌≤◌, ⊎_elim, ℕ, List, [], ◌∷◌, ◌++◌, All, length}
use Rattle.std.proofs.Common.{take, get_or, arith, sym, ap, subst, append_assoc}
use Rattle.std.proofs.Math.ListN.{get_or-append}
use Rattle.std.proofs.Math.Seq.{get_or-append_seam, take-append_seam}
use Rattle.std.proofs.lemmas.Bool.{cases_lt}
use Rattle.std.proofs.lemmas.List.{take-append-le}
use Rattle.std.proofs.lemmas.List.Elements.{All-head, All-tail}
use Rattle.std.proofs.lemmas.Str.{IsUtf8-append, IsUtf8-from_ascii, IsUtf8-nil, IsUtf8-take}
use Rattle.std.proofs.lemmas.Str.Ascii.{IsAscii-cons, IsAscii-nil}
use Rattle.std.specs.List.{join_with_byte}
use Rattle.std.specs.Str.{IsUtf8}
use Rattle.rc_dbtext.specs.Words.{line_of_words}

-- a space more in front
space_before : (text : List ℕ) → IsUtf8 text → IsUtf8 (32 ∷ text)
space_before text is =
    IsUtf8-append (32 ∷ []) text
    (IsUtf8-from_ascii (32 ∷ []) (IsAscii-cons 32 [] (omega arith) IsAscii-nil)) is

joined_text : (words : List (List ℕ)) → All IsUtf8 words → IsUtf8 (join_with_byte 32 words)
joined_text [] each = IsUtf8-nil
joined_text (word ∷ []) each = All-head IsUtf8 word [] each
joined_text (word ∷ next ∷ words) each =
    IsUtf8-append word (32 ∷ join_with_byte 32 (next ∷ words))
    (All-head IsUtf8 word (next ∷ words) each)
    (space_before (join_with_byte 32 (next ∷ words))
    (joined_text (next ∷ words) (All-tail IsUtf8 word (next ∷ words) each)))

-- what is in front of the first newline of a line of UTF-8 words is UTF-8
pub front_text : (front rest behind : List ℕ) (words : List (List ℕ)) → All IsUtf8 words
    → All (λ byte. byte ≢ 10) front → front ++ 10 ∷ rest ≡ line_of_words words ++ behind
    → IsUtf8 front
front_text front rest behind words each plain same =
    let joined : List ℕ = join_with_byte 32 words in
    let apart : front ++ 10 ∷ rest ≡ joined ++ 10 ∷ behind =
    same ∙ append_assoc joined (10 ∷ []) behind in
    let within : length front ≤ length joined = ⊎_elim
    (λ less. absurd (plain (length joined) 0 less
    (sym (get_or-append front (10 ∷ rest) 0 (length joined) less)
    ∙ ap (λ (l : List ℕ). get_or l (length joined) 0) apart
    ∙ get_or-append_seam joined 10 behind 0)))
    (λ le. le)
    (cases_lt (length joined) (length front)) in
    let cut : take (length front) joined ≡ front =
    sym (take-append-le (length front) joined (10 ∷ behind) within)
    ∙ ap (λ (l : List ℕ). take (length front) l) (sym apart)
    ∙ take-append_seam front (10 ∷ rest) in
    let newline : length front < length joined → get_or joined (length front) 0 ≡ 10 =
    λ low. sym (get_or-append joined (10 ∷ behind) 0 (length front) low)
    ∙ ap (λ (l : List ℕ). get_or l (length front) 0) (sym apart)
    ∙ get_or-append_seam front 10 rest 0 in
    subst IsUtf8 cut (IsUtf8-take joined (length front) (joined_text words each)
    (within, λ low big. absurd (omega (arith, newline low, big))))
