-- What is written word by word is the line.
use Rattle.std.proofs.Common.{◌≡◌, ◌∙◌, ◌<◌, ◌+◌, ℕ, List, [], ◌∷◌, ◌++◌, length, map, take, get_or}
use Rattle.std.proofs.Common.{sym, ap, append_assoc}
use Rattle.std.proofs.lemmas.List.{append-nil, flat_map_more, map_more}
use Rattle.std.specs.Prelude.{codes}
use Rattle.std.specs.List.{join_with_byte}
use Rattle.rc_dbtext.specs.Text.{line_of_words}
use Rattle.rc_dbtext.specs.Lines.{words_after_spaces}

joined_spaced : (word : List ℕ) (words : List (List ℕ))
    → join_with_byte 32 (word ∷ words) ≡ word ++ words_after_spaces words
joined_spaced word [] = sym (append-nil word)
joined_spaced word (next ∷ words) = ap (λ (l : List ℕ). word ++ (32 ∷ l)) (joined_spaced next words)

-- a word, words with a space before each, and a newline
pub line_of : (old word : List ℕ) (words : List (List ℕ))
    → ((old ++ word) ++ words_after_spaces words) ++ 10 ∷ [] ≡ old ++ line_of_words (word ∷ words)
line_of old word words =
    let apart : ((old ++ word) ++ words_after_spaces words) ++ 10 ∷ []
    ≡ old ++ ((word ++ words_after_spaces words) ++ 10 ∷ []) = simp append_assoc in
    apart ∙ ap (λ (l : List ℕ). old ++ (l ++ 10 ∷ [])) (sym (joined_spaced word words))

-- one word more after a space
pub spaced_more : {X : Type 0} (f : X → List ℕ) (old : List ℕ) (xs : List X) (i : ℕ) (d : X)
    → i < length xs → (old ++ words_after_spaces (map f (take i xs))) ++ 32 ∷ f (get_or xs i d)
    ≡ old ++ words_after_spaces (map f (take (i + 1) xs))
spaced_more f old xs i d within =
    flat_map_more (λ (word : List ℕ). 32 ∷ word) old (map f (take i xs)) (f (get_or xs i d))
    ∙ ap (λ (words : List (List ℕ)). old ++ words_after_spaces words)
    (sym (map_more f xs i d within))

-- so many words pushed one by one are their line
pub two_words : (old first second : List ℕ)
    → ((old ++ first) ++ (32 ∷ second)) ++ 10 ∷ [] ≡ old ++ line_of_words (first ∷ second ∷ [])
two_words old first second = simp append_assoc

-- one word more
word_more : (x y : List ℕ) (words : List (List ℕ)) (word : List ℕ)
    → y ≡ x ++ words_after_spaces words
    → y ++ (32 ∷ word) ≡ x ++ words_after_spaces (words ++ word ∷ [])
word_more x y words word so_far =
    ap (λ (l : List ℕ). l ++ (32 ∷ word)) so_far
    ∙ flat_map_more (λ (w : List ℕ). 32 ∷ w) x words word

five_words : (x b c d e f : List ℕ)
    → ((((x ++ (32 ∷ b)) ++ (32 ∷ c)) ++ (32 ∷ d)) ++ (32 ∷ e)) ++ (32 ∷ f)
    ≡ x ++ words_after_spaces (b ∷ c ∷ d ∷ e ∷ f ∷ [])
five_words x b c d e f =
    let one = word_more x x [] b (sym (append-nil x)) in
    let two = word_more x (x ++ (32 ∷ b)) (b ∷ []) c one in
    let three = word_more x ((x ++ (32 ∷ b)) ++ (32 ∷ c)) (b ∷ c ∷ []) d two in
    let four = word_more x (((x ++ (32 ∷ b)) ++ (32 ∷ c)) ++ (32 ∷ d)) (b ∷ c ∷ d ∷ []) e three in
    word_more x ((((x ++ (32 ∷ b)) ++ (32 ∷ c)) ++ (32 ∷ d)) ++ (32 ∷ e))
    (b ∷ c ∷ d ∷ e ∷ []) f four

pub six_words : (old a b c d e f : List ℕ)
    → ((((((old ++ a) ++ (32 ∷ b)) ++ (32 ∷ c)) ++ (32 ∷ d)) ++ (32 ∷ e)) ++ (32 ∷ f)) ++ 10 ∷ []
    ≡ old ++ (line_of_words (a ∷ b ∷ c ∷ d ∷ e ∷ f ∷ []) ++ [])
six_words old a b c d e f =
    ap (λ (l : List ℕ). l ++ 10 ∷ []) (five_words (old ++ a) b c d e f)
    ∙ line_of old a (b ∷ c ∷ d ∷ e ∷ f ∷ [])
    ∙ ap (λ (l : List ℕ). old ++ l) (sym (append-nil (line_of_words (a ∷ b ∷ c ∷ d ∷ e ∷ f ∷ []))))

pub needs_line : (old : List ℕ) (names : List (List ℕ))
    → ((old ++ codes "needs") ++ words_after_spaces names) ++ 10 ∷ []
    ≡ old ++ (line_of_words (codes "needs" ∷ names) ++ [])
needs_line old names =
    line_of old (codes "needs") names
    ∙ ap (λ (l : List ℕ). old ++ l) (sym (append-nil (line_of_words (codes "needs" ∷ names))))

pub bundle_line : (old name : List ℕ) (names : List (List ℕ))
    → (((old ++ codes "bundle") ++ (32 ∷ name)) ++ words_after_spaces names) ++ 10 ∷ []
    ≡ old ++ line_of_words (codes "bundle" ∷ name ∷ names)
bundle_line old name names =
    ap (λ (l : List ℕ). l ++ 10 ∷ [])
    (append_assoc (old ++ codes "bundle") (32 ∷ name) (words_after_spaces names))
    ∙ line_of old (codes "bundle") (name ∷ names)
