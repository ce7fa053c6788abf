-- Where a text of known length stands in front of others, it is one.
use Rattle.std.proofs.Common.{◌≡◌, ◌∙◌, ℕ, List, [], ◌∷◌, ◌++◌, length, get_or, refl}
use Rattle.std.proofs.Common.{sym, append_assoc}
use Rattle.rc_model.proofs.Lists.{cut_once}

at_end : (text rest : List ℕ) (byte d : ℕ) → get_or (text ++ byte ∷ rest) (length text) d ≡ byte
at_end [] rest byte d = refl
at_end (c ∷ text) rest byte d = at_end text rest byte d

-- a text, its newline and the rest are one text and one rest
pub text_once : (a b x y : List ℕ) → length a ≡ length b → a ++ 10 ∷ [] ++ x ≡ b ++ 10 ∷ [] ++ y
    → (a ≡ b) × (x ≡ y)
text_once a b x y long same =
    let both = cut_once a b (10 ∷ x) (10 ∷ y) long
    (sym (append_assoc a (10 ∷ []) x) ∙ same ∙ append_assoc b (10 ∷ []) y) in
    (both.0, cc)
