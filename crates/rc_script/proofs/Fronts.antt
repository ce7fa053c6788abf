-- The choices in front of words, option by option.
use Rattle.std.proofs.Common.{◌≡◌, ◌∙◌, ◌<◌, ◌≤◌, ◌+◌, ◌-◌, ◌==◌, ℕ, true, false, List, [], ◌∷◌}
use Rattle.std.proofs.Common.{◌++◌, Option, Some, None, length, map, drop, get_or, slice_index}
use Rattle.std.proofs.Common.{codes, arith, refl, sym, ap, subst, append_assoc}
use Rattle.std.specs.Option.{option_and_then}
use Rattle.std.specs.Str.{bytes_eq}
use Rattle.std.proofs.lemmas.Bool.{false≢true}
use Rattle.std.proofs.Math.Seq.{drop-drop}
use Rattle.std.proofs.lemmas.List.{append-nil, length-drop}
use Rattle.rc_select.specs.declared.request.Choice.{Choice}
use Rattle.rc_script.specs.Options.{Front, onto, front_of, has_option, word_choices, IsOption}

onto_onto : (a b : List Choice) (front : Option Front) → onto a (onto b front) ≡ onto (a ++ b) front
onto_onto a b None = refl
onto_onto a b (Some front) =
    ap (λ (choices : List Choice). let f : Front = record {
      choices = choices;
      words = front.words;
    } in Some f) (sym (append_assoc a b front.choices))

onto_none : (front : Option Front) → front ≡ onto [] front
onto_none None = refl
onto_none (Some front) = refl

-- the words after some words of those after others
behind_both : {X : Type 0} (start count : ℕ) (xs : List X)
    → drop count (drop start xs) ≡ drop (start + count) xs
behind_both start count xs = drop-drop count start xs

-- words that do not begin with an option
pub no_option : (words : List (List ℕ)) → has_option words ≡ false
    → front_of false words ≡ Some (record { choices = []; words = words })
no_option [] none = refl
no_option (word ∷ words) none = rw none refl

-- no option yet
pub options_begin : (words : List (List ℕ)) (none : List Choice) → none ≡ []
    → front_of false words ≡ onto none (front_of false words)
options_begin words none is =
    let All : List Choice → Type 0 =
    λ choices. front_of false words ≡ onto choices (front_of false words) in
    subst All (sym is) (onto_none (front_of false words))

-- an option takes a word and more, so fewer are left
pub option_nears : (whole words : List (List ℕ)) (start count n : ℕ) (old new : List Choice)
    → length whole ≡ n → words ≡ drop start whole → start ≤ n → IsOption false old new words count
    → n - (start + count) < n - start
option_nears whole words start count n old new long here within option =
    omega (arith, long, within, option.some, option.within, ap length here, length-drop start whole)

-- where an option stands in front there is a word
pub words_some : {X : Type 0} (f : X → List ℕ) (words : List X) → has_option (map f words) ≡ true
    → 0 < length words
words_some f [] has = absurd (false≢true has)
words_some f (word ∷ words) has = omega arith

filled : (word : List ℕ) → slice_index word 0 == 45 ≡ true → 0 < length word
filled [] dash = absurd (false≢true dash)
filled (byte ∷ bytes) dash = omega arith

-- and the first word is not empty
pub first_filled : {X : Type 0} (f : X → List ℕ) (words : List X) (d : X)
    → has_option (map f words) ≡ true → 0 < length (f (get_or words 0 d))
first_filled f [] d has = absurd (false≢true has)
first_filled f (word ∷ words) d has = filled (f word) has

-- a limit that is well formed
pub limit_option : {X : Type 0} (f : X → List ℕ) (words : List X) (d : X) (rest : List (List ℕ))
    (old new : List Choice) → has_option (map f words) ≡ true
    → bytes_eq (f (get_or words 0 d)) (codes "-t") ≡ true → rest ≡ drop 1 (map f words)
    → IsOption true old new rest 1 → IsOption false old new (map f words) 2
limit_option f [] d rest old new has limit here option = absurd (false≢true has)
limit_option f (word ∷ words) d rest old new has limit here option =
    let behind : IsOption true old new (map f words) 1 =
    subst (λ (ws : List (List ℕ)). IsOption true old new ws 1) here option in
    record {
      added = behind.added;
      choices = behind.choices;
      front = rw (has, limit) behind.front;
      some = omega arith;
      within = omega (arith, behind.within);
    }

-- and one that is not
pub limit_fails : {X : Type 0} (f : X → List ℕ) (words : List X) (d : X) (rest : List (List ℕ))
    → has_option (map f words) ≡ true
    → bytes_eq (f (get_or words 0 d)) (codes "-t") ≡ true → rest ≡ drop 1 (map f words)
    → front_of true rest ≡ None → front_of false (map f words) ≡ None
limit_fails f [] d rest has limit here none = absurd (false≢true has)
limit_fails f (word ∷ words) d rest has limit here none =
    let behind : front_of true (map f words) ≡ None =
    subst (λ (ws : List (List ℕ)). front_of true ws ≡ None) here none in
    rw (has, limit) behind

-- letters that each choose something
pub letters_option : {X : Type 0} (f : X → List ℕ) (words : List X) (d : X)
    (letters old new : List Choice) → has_option (map f words) ≡ true
    → bytes_eq (f (get_or words 0 d)) (codes "-t") ≡ false
    → Some letters ≡ word_choices (f (get_or words 0 d)) → new ≡ old ++ letters
    → IsOption false old new (map f words) 1
letters_option f [] d letters old new has other is grown = absurd (false≢true has)
letters_option f (word ∷ words) d letters old new has other is grown =
    let After : List Choice → Option Front =
    λ choices. onto choices (front_of false (map f words)) in
    record {
      added = letters;
      choices = grown;
      front = rw (has, other) (ap (option_and_then After) (sym is));
      some = omega arith;
      within = omega arith;
    }

-- one option more
pub option_more : (whole words : List (List ℕ)) (start count : ℕ) (old new : List Choice)
    → front_of false whole ≡ onto old (front_of false (drop start whole))
    → words ≡ drop start whole → start ≤ length whole → IsOption false old new words count
    → (start + count ≤ length whole)
    × (front_of false whole ≡ onto new (front_of false (drop (start + count) whole)))
option_more whole words start count old new so_far here within option = (
  omega (arith, option.within, ap length here, length-drop start whole),
  so_far ∙ ap (λ (ws : List (List ℕ)). onto old (front_of false ws)) (sym here)
      ∙ ap (onto old) option.front
      ∙ onto_onto old option.added (front_of false (drop count words))
      ∙ ap (λ (cs : List Choice). onto cs (front_of false (drop count words))) (sym option.choices)
      ∙ ap (λ (ws : List (List ℕ)). onto new (front_of false (drop count ws))) here
      ∙ ap (λ (ws : List (List ℕ)). onto new (front_of false ws)) (behind_both start count whole),
)

-- an option that is not well formed
pub option_fails : (whole words : List (List ℕ)) (start : ℕ) (old : List Choice)
    → front_of false whole ≡ onto old (front_of false (drop start whole))
    → words ≡ drop start whole → front_of false words ≡ None → None ≡ front_of false whole
option_fails whole words start old so_far here none =
    sym (so_far ∙ ap (λ (ws : List (List ℕ)). onto old (front_of false ws)) (sym here)
    ∙ ap (onto old) none)

-- no more options
pub options_end : (whole words : List (List ℕ)) (start : ℕ) (old : List Choice)
    → front_of false whole ≡ onto old (front_of false (drop start whole))
    → words ≡ drop start whole → has_option words ≡ false
    → Some (record { choices = old; words = words }) ≡ front_of false whole
options_end whole words start old so_far here none =
    sym (so_far ∙ ap (λ (ws : List (List ℕ)). onto old (front_of false ws)) (sym here)
    ∙ ap (onto old) (no_option words none)
    ∙ ap (λ (choices : List Choice). let f : Front = record { choices = choices; words = words } in
    Some f) (append-nil old))
