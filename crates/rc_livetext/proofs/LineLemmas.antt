-- Parts that are written one by one.
use Rattle.std.proofs.Common.{◌≡◌, ◌∙◌, List, [], ◌++◌, ℕ, sym, ap, append_assoc}
use Rattle.std.proofs.lemmas.List.{append-nil}

pub three_parts : (old a b c : List ℕ) → ((old ++ a) ++ b) ++ c ≡ old ++ (a ++ (b ++ (c ++ [])))
three_parts old a b c =
    ap (λ (l : List ℕ). l ++ c) (append_assoc old a b)
    ∙ (append_assoc old (a ++ b) c
    ∙ ap (λ (l : List ℕ). old ++ l)
    (append_assoc a b c ∙ ap (λ (l : List ℕ). a ++ (b ++ l)) (sym (append-nil c))))
