-- The words of a line tell which line it is.
use Rattle.std.proofs.Common.{◌≡◌, ℕ, ◌+◌, Bool, true, false, List, [], ◌∷◌, All, get_or, refl, ap}
use Rattle.std.proofs.Common.{arith}
use Rattle.std.proofs.lemmas.Fmt.{decimal_injective}
use Rattle.std.proofs.lemmas.List.Elements.{All-cons}
use Rattle.std.specs.Prelude.{codes}
use Rattle.std.specs.Fmt.{decimal}
use Rattle.std.specs.Str.{IsUtf8}
use Rattle.rc_dbtext.specs.Words.{ArePlain, BundleText, IsPlain}
use Rattle.rc_dbtext.proofs.Plain.{plain_from, plain_name, plain_names, plain_words}
use Rattle.rc_dbtext.proofs.Plain.{plain_decimal, no_words}
use Rattle.rc_dbtext.proofs.Texts.{one_text, text_decimal, text_from, text_names}
use Rattle.rc_dbtext.proofs.LineWords.{each_cons}
use Rattle.rc_model.proofs.Lists.{word_at}
pub use Rattle.rc_livetext.specs.Saying.{IsSaid}
use Rattle.rc_livetext.specs.Text.{Line, First, OfServices, OfBound, OfState, OfBundle, Last, words}
use Rattle.rc_livetext.specs.Text.{version_word, state_word}

plain_version : (bounded : Bool) → IsPlain (version_word bounded)
plain_version true = plain_from (codes "2") refl
plain_version false = plain_from (codes "1") refl

plain_state : (current : Bool) → IsPlain (state_word current)
plain_state true = plain_from (codes "now") refl
plain_state false = plain_from (codes "up") refl

-- the words of a line are words
pub plain_line : (l : Line) → IsSaid l → ArePlain (words l)
plain_line (First bounded) is =
    plain_words (codes "undorc-live") (version_word bounded ∷ [])
    (plain_from (codes "undorc-live") refl)
    (each_cons (version_word bounded) [] (plain_version bounded) no_words)
plain_line (OfServices names) is =
    plain_words (codes "services") names (plain_from (codes "services") refl)
    (plain_names names is.each)
plain_line (OfBound bound) is =
    plain_words (codes "bound") (decimal bound ∷ []) (plain_from (codes "bound") refl)
    (each_cons (decimal bound) [] (plain_decimal bound (omega (arith, is.1))) no_words)
plain_line (OfState current names) is =
    plain_words (state_word current) names (plain_state current) (plain_names names is.each)
plain_line (OfBundle b) is =
    plain_words (codes "bundle") (b.name ∷ b.members) (plain_from (codes "bundle") refl)
    (each_cons b.name b.members (plain_name b.name is.name) (plain_names b.members is.members.each))
plain_line Last is = plain_words (codes "end") [] (plain_from (codes "end") refl) no_words

text_version : (bounded : Bool) → IsUtf8 (version_word bounded)
text_version true = text_from (codes "2") refl
text_version false = text_from (codes "1") refl

text_state : (current : Bool) → IsUtf8 (state_word current)
text_state true = text_from (codes "now") refl
text_state false = text_from (codes "up") refl

-- the words of a line are UTF-8
pub text_line : (l : Line) → IsSaid l → All IsUtf8 (words l)
text_line (First bounded) is =
    All-cons IsUtf8 (codes "undorc-live") (version_word bounded ∷ [])
    (text_from (codes "undorc-live") refl) (one_text (version_word bounded) (text_version bounded))
text_line (OfServices names) is =
    All-cons IsUtf8 (codes "services") names (text_from (codes "services") refl)
    (text_names names is.each)
text_line (OfBound bound) is =
    All-cons IsUtf8 (codes "bound") (decimal bound ∷ []) (text_from (codes "bound") refl)
    (one_text (decimal bound) (text_decimal bound (omega (arith, is.1))))
text_line (OfState current names) is =
    All-cons IsUtf8 (state_word current) names (text_state current) (text_names names is.each)
text_line (OfBundle b) is =
    All-cons IsUtf8 (codes "bundle") (b.name ∷ b.members) (text_from (codes "bundle") refl)
    (All-cons IsUtf8 b.name b.members is.name.utf8 (text_names b.members is.members.each))
text_line Last is = one_text (codes "end") (text_from (codes "end") refl)

-- the first two bytes of the first word tell its kind
abbrev mark : List (List ℕ) → ℕ
mark ws = get_or (get_or ws 0 []) 0 0 + get_or (get_or ws 0 []) 1 0

marked : (a b : Line) → words a ≡ words b → mark (words a) ≡ mark (words b)
marked a b same = ap (λ (ws : List (List ℕ)). mark ws) same

version_once : (a b : Bool) → version_word a ≡ version_word b → a ≡ b
version_once true true same = refl
version_once true false same = absurd (omega (arith, ap (λ (l : List ℕ). get_or l 0 0) same))
version_once false true same = absurd (omega (arith, ap (λ (l : List ℕ). get_or l 0 0) same))
version_once false false same = refl

tail_once : (a b : List ℕ) (ws vs : List (List ℕ)) → a ∷ ws ≡ b ∷ vs → ws ≡ vs
tail_once a b ws vs same = cc

states_once : (c d : Bool) (a b : List (List ℕ)) → words (OfState c a) ≡ words (OfState d b)
    → OfState c a ≡ OfState d b
states_once true true a b same =
    ap (λ (ns : List (List ℕ)). OfState true ns)
    (tail_once (state_word true) (state_word true) a b same)
states_once false false a b same =
    ap (λ (ns : List (List ℕ)). OfState false ns)
    (tail_once (state_word false) (state_word false) a b same)
states_once true false a b same =
    absurd (omega (arith, marked (OfState true a) (OfState false b) same))
states_once false true a b same =
    absurd (omega (arith, marked (OfState false a) (OfState true b) same))

bundles_once : (a b : BundleText) → words (OfBundle a) ≡ words (OfBundle b)
    → OfBundle a ≡ OfBundle b
bundles_once a b same =
    let rest : a.name ∷ a.members ≡ b.name ∷ b.members =
    tail_once (codes "bundle") (codes "bundle") (a.name ∷ a.members) (b.name ∷ b.members) same in
    let name : a.name ≡ b.name = word_at 0 (a.name ∷ a.members) (b.name ∷ b.members) rest in
    let members : a.members ≡ b.members = tail_once a.name b.name a.members b.members rest in
    λ k. OfBundle (record { name = name k; members = members k })

-- a line is that of its words
pub line_once : (a b : Line) → IsSaid a → IsSaid b → words a ≡ words b → a ≡ b
line_once (First a0) (First a1) is_a is_b same =
    ap First (version_once a0 a1 (word_at 1 (words (First a0)) (words (First a1)) same))
line_once (First a0) (OfServices a1) is_a is_b same =
    absurd (omega (arith, marked (First a0) (OfServices a1) same))
line_once (First a0) (OfBound a1) is_a is_b same =
    absurd (omega (arith, marked (First a0) (OfBound a1) same))
line_once (First a0) (OfState true a1) is_a is_b same =
    absurd (omega (arith, marked (First a0) (OfState true a1) same))
line_once (First a0) (OfState false a1) is_a is_b same =
    absurd (omega (arith, marked (First a0) (OfState false a1) same))
line_once (First a0) (OfBundle a1) is_a is_b same =
    absurd (omega (arith, marked (First a0) (OfBundle a1) same))
line_once (First a0) Last is_a is_b same = absurd (omega (arith, marked (First a0) Last same))
line_once (OfServices a0) (First a1) is_a is_b same =
    absurd (omega (arith, marked (OfServices a0) (First a1) same))
line_once (OfServices a0) (OfServices a1) is_a is_b same =
    ap OfServices (tail_once (codes "services") (codes "services") a0 a1 same)
line_once (OfServices a0) (OfBound a1) is_a is_b same =
    absurd (omega (arith, marked (OfServices a0) (OfBound a1) same))
line_once (OfServices a0) (OfState true a1) is_a is_b same =
    absurd (omega (arith, marked (OfServices a0) (OfState true a1) same))
line_once (OfServices a0) (OfState false a1) is_a is_b same =
    absurd (omega (arith, marked (OfServices a0) (OfState false a1) same))
line_once (OfServices a0) (OfBundle a1) is_a is_b same =
    absurd (omega (arith, marked (OfServices a0) (OfBundle a1) same))
line_once (OfServices a0) Last is_a is_b same =
    absurd (omega (arith, marked (OfServices a0) Last same))
line_once (OfBound a0) (First a1) is_a is_b same =
    absurd (omega (arith, marked (OfBound a0) (First a1) same))
line_once (OfBound a0) (OfServices a1) is_a is_b same =
    absurd (omega (arith, marked (OfBound a0) (OfServices a1) same))
line_once (OfBound a0) (OfBound a1) is_a is_b same =
    ap OfBound (decimal_injective a0 a1 (omega (arith, is_a.1)) (omega (arith, is_b.1))
    (word_at 1 (words (OfBound a0)) (words (OfBound a1)) same))
line_once (OfBound a0) (OfState true a1) is_a is_b same =
    absurd (omega (arith, marked (OfBound a0) (OfState true a1) same))
line_once (OfBound a0) (OfState false a1) is_a is_b same =
    absurd (omega (arith, marked (OfBound a0) (OfState false a1) same))
line_once (OfBound a0) (OfBundle a1) is_a is_b same =
    absurd (omega (arith, marked (OfBound a0) (OfBundle a1) same))
line_once (OfBound a0) Last is_a is_b same = absurd (omega (arith, marked (OfBound a0) Last same))
line_once (OfState true a0) (First a1) is_a is_b same =
    absurd (omega (arith, marked (OfState true a0) (First a1) same))
line_once (OfState false a0) (First a1) is_a is_b same =
    absurd (omega (arith, marked (OfState false a0) (First a1) same))
line_once (OfState true a0) (OfServices a1) is_a is_b same =
    absurd (omega (arith, marked (OfState true a0) (OfServices a1) same))
line_once (OfState false a0) (OfServices a1) is_a is_b same =
    absurd (omega (arith, marked (OfState false a0) (OfServices a1) same))
line_once (OfState true a0) (OfBound a1) is_a is_b same =
    absurd (omega (arith, marked (OfState true a0) (OfBound a1) same))
line_once (OfState false a0) (OfBound a1) is_a is_b same =
    absurd (omega (arith, marked (OfState false a0) (OfBound a1) same))
line_once (OfState c0 a0) (OfState c1 a1) is_a is_b same = states_once c0 c1 a0 a1 same
line_once (OfState true a0) (OfBundle a1) is_a is_b same =
    absurd (omega (arith, marked (OfState true a0) (OfBundle a1) same))
line_once (OfState false a0) (OfBundle a1) is_a is_b same =
    absurd (omega (arith, marked (OfState false a0) (OfBundle a1) same))
line_once (OfState true a0) Last is_a is_b same =
    absurd (omega (arith, marked (OfState true a0) Last same))
line_once (OfState false a0) Last is_a is_b same =
    absurd (omega (arith, marked (OfState false a0) Last same))
line_once (OfBundle a0) (First a1) is_a is_b same =
    absurd (omega (arith, marked (OfBundle a0) (First a1) same))
line_once (OfBundle a0) (OfServices a1) is_a is_b same =
    absurd (omega (arith, marked (OfBundle a0) (OfServices a1) same))
line_once (OfBundle a0) (OfBound a1) is_a is_b same =
    absurd (omega (arith, marked (OfBundle a0) (OfBound a1) same))
line_once (OfBundle a0) (OfState true a1) is_a is_b same =
    absurd (omega (arith, marked (OfBundle a0) (OfState true a1) same))
line_once (OfBundle a0) (OfState false a1) is_a is_b same =
    absurd (omega (arith, marked (OfBundle a0) (OfState false a1) same))
line_once (OfBundle a0) (OfBundle a1) is_a is_b same = bundles_once a0 a1 same
line_once (OfBundle a0) Last is_a is_b same = absurd (omega (arith, marked (OfBundle a0) Last same))
line_once Last (First a1) is_a is_b same = absurd (omega (arith, marked Last (First a1) same))
line_once Last (OfServices a1) is_a is_b same =
    absurd (omega (arith, marked Last (OfServices a1) same))
line_once Last (OfBound a1) is_a is_b same = absurd (omega (arith, marked Last (OfBound a1) same))
line_once Last (OfState true a1) is_a is_b same =
    absurd (omega (arith, marked Last (OfState true a1) same))
line_once Last (OfState false a1) is_a is_b same =
    absurd (omega (arith, marked Last (OfState false a1) same))
line_once Last (OfBundle a1) is_a is_b same = absurd (omega (arith, marked Last (OfBundle a1) same))
line_once Last Last is_a is_b same = refl
