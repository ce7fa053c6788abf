-- What words say, by the verb.
use Rattle.std.proofs.Common.{◌≡◌, ◌∙◌, ℕ, All, Bool, true, false, List, [], ◌∷◌, Result, Ok, Err}
use Rattle.std.proofs.Common.{inl, inr, refl, sym, ap, subst, arith, length}
use Rattle.std.proofs.Common.{◌==◌}
use Rattle.std.proofs.lemmas.Bool.Decides.{Decides-eqb}
use Rattle.std.specs.Prelude.{IfOk}
use Rattle.std.specs.Str.{IsUtf8}
use Rattle.rc_select.specs.declared.request.Choice.{Choice}
use Rattle.rc_script.specs.Words.{words_in, is_silent}
use Rattle.rc_script.specs.Says.{Saying, SaysWrong, addition_of, is_forced, unforced}
use Rattle.rc_script.specs.Says.{plain, sentence, HasName, Says, IsSaid}

-- a line says one thing
unlike : {P : Type 0} (b : Bool) → b ≡ true → b ≡ false → P
unlike b yes_it no_it = absurd (cc)

pub line_once : (line : List ℕ) (a b : Saying) → Says line a → Says line b → a ≡ b
line_once line a b (inl x) (inl y) = x.1 ∙ sym y.1
line_once line a b (inl x) (inr (inl y)) = unlike (is_silent (words_in line)) x.0 y.0
line_once line a b (inl x) (inr (inr y)) = unlike (is_silent (words_in line)) x.0 y.0
line_once line a b (inr (inl x)) (inl y) = unlike (is_silent (words_in line)) y.0 x.0
line_once line a b (inr (inl x)) (inr (inl y)) = x.2 ∙ sym y.2
line_once line a b (inr (inl x)) (inr (inr y)) = absurd (y.1 x.1)
line_once line a b (inr (inr x)) (inl y) = unlike (is_silent (words_in line)) y.0 x.0
line_once line a b (inr (inr x)) (inr (inl y)) = absurd (x.1 y.1)
line_once line a b (inr (inr x)) (inr (inr y)) = x.2 ∙ sym y.2

-- what is said in other words for the same
pub said_as : {R : Type 0} (f : R → Saying) {E : Type 0} (r : Result R E) (a b : Saying) → a ≡ b
    → IfOk r (λ line. IsSaid a (f line)) → IfOk r (λ line. IsSaid b (f line))
said_as f r a b same said =
    subst (λ (wanted : Saying). IfOk r (λ line. IsSaid wanted (f line))) same said

pub empty_list : {X : Type 0} (xs : List X) → (length xs == 0) ≡ true → xs ≡ []
empty_list [] e = refl
empty_list (x ∷ xs) e =
    absurd (let zero : length (x ∷ xs) ≡ 0 = (Decides-eqb (length (x ∷ xs)) 0).0 e in omega arith)

-- what is said with no choices in front
pub plain_as : (wanted saying : Saying) (choices : List Choice) → choices ≡ [] → wanted ≡ saying
    → wanted ≡ plain saying choices
plain_as wanted saying choices none same = same ∙ sym (ap (plain saying) none)

pub forced_as : (words names : List (List ℕ)) (force : Bool) → force ≡ is_forced words
    → names ≡ unforced words
    → addition_of force names ≡ addition_of (is_forced words) (unforced words)
forced_as words names force forces same =
    ap (λ (f : Bool). addition_of f names) forces ∙ ap (addition_of (is_forced words)) same

-- what a line says, by what its words say
pub line_says : {R E : Type 0} (f : R → Saying) (r : Result R E) (line : List ℕ)
    (words texts : List (List ℕ)) → words ≡ words_in line → is_silent words ≡ false
    → texts ≡ words → All IsUtf8 words → IfOk r (λ read. IsSaid (sentence texts) (f read))
    → IfOk r (λ read. Says line (f read))
line_says f (Err e) line words texts are speaks same each said = tt
line_says f (Ok read) line words texts are speaks same each said = by_right said
  where
    silent : is_silent (words_in line) ≡ false
    silent = ap is_silent (sym are) ∙ speaks

    text : All IsUtf8 (words_in line)
    text = subst (λ (ws : List (List ℕ)). All IsUtf8 ws) are each

    words_are : sentence texts ≡ sentence (words_in line)
    words_are = ap sentence (same ∙ are)

    by_right : IsSaid (sentence texts) (f read) → Says line (f read)
    by_right (inl right) =
        inr (inl (
          silent,
          record { text = text; name = subst HasName words_are right.0 },
          right.1 ∙ words_are,
        ))
    by_right (inr wrong) =
        inr (inr (silent, (λ right. wrong.0 (subst HasName (sym words_are) right.name)), wrong.1))

-- a line with a word that is no text is wrong
pub line_wrong : (line : List ℕ) (words : List (List ℕ)) → words ≡ words_in line
    → is_silent words ≡ false → (All IsUtf8 words → ⊥) → Says line SaysWrong
line_wrong line words are speaks odd =
    inr
    (inr (
      ap is_silent (sym are) ∙ speaks,
      (λ right. odd (subst (λ (ws : List (List ℕ)). All IsUtf8 ws) (sym are) right.text)),
      refl,
    ))
