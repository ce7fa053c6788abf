use Rattle.std.proofs.Common.{◌≡◌, ◌∙◌, ◌+◌, ◌<◌, ◌≤◌, ℕ, List, [], ◌∷◌, ◌++◌, Option, Some, None}
use Rattle.std.proofs.Common.{length, drop, get_or, refl, sym, ap, subst, append-nil, append_assoc}
use Rattle.std.specs.Option.{option_map, option_and_then}
use Rattle.std.proofs.Math.ListN.{drop_of_length-le}
use Rattle.std.proofs.lemmas.List.{drop_more}
use Rattle.rc_select.specs.declared.request.Choice.{Choice}
use Rattle.rc_select.specs.Ask.{choice_of}
use Rattle.rc_script.specs.Options.{choices_of}
use Rattle.rc_script.proofs.options.choices_of.Goals as goal

abbrev in_front : List Choice → Option (List Choice) → Option (List Choice)
in_front choices others = option_map (λ others. choices ++ others) others

abbrev chosen_first : Option Choice → Option (List Choice) → Option (List Choice)
chosen_first first others =
    option_and_then (λ choice. option_map (λ others. choice ∷ others) others) first

none_in_front : (others : Option (List Choice)) → others ≡ in_front [] others
none_in_front None = refl
none_in_front (Some others) = refl

one_more : (choices : List Choice) (choice : Choice) (others : Option (List Choice))
    → in_front choices (chosen_first (Some choice) others)
    ≡ in_front (choices ++ choice ∷ []) others
one_more choices choice None = refl
one_more choices choice (Some others) = ap Some (sym (simp append_assoc))

module _ (letters : List ℕ) (i : ℕ) (choices : List Choice)
    (so : choices_of letters ≡ in_front choices (choices_of (drop i letters))) where
  -- at a letter
  at_letter : i < length letters → (first : Option Choice) → first ≡ choice_of (get_or letters i 0)
      → choices_of letters
      ≡ in_front choices (chosen_first first (choices_of (drop (i + 1) letters)))
  at_letter low first is =
      so ∙ ap (λ (rest : List ℕ). in_front choices (choices_of rest)) (drop_more letters i 0 low)
      ∙ ap (λ (o : Option Choice). in_front choices
      (chosen_first o (choices_of (drop (i + 1) letters))))
      (sym is)

  -- and at the end
  at_end : length letters ≤ i → Some choices ≡ choices_of letters
  at_end high =
      let whole = so
      ∙ ap (λ (rest : List ℕ). in_front choices (choices_of rest))
      (drop_of_length-le letters high) in
      sym (whole ∙ ap Some (append-nil choices))

pub loop-letter-init : goal.loop-letter-init
loop-letter-init c =
    subst (λ (choices : List Choice). choices_of c.args.letters.now
    ≡ in_front choices (choices_of c.args.letters.now))
    (sym c.new-choices.ensures.items) (none_in_front (choices_of c.args.letters.now))

pub loop-letter-preserved : goal.loop-letter-preserved
loop-letter-preserved c =
    let letters = c.args.letters.now in
    let i = c.loop-letter.letter-index in
    let rest = choices_of (drop (i + 1) letters) in
    subst (λ (choices : List Choice). choices_of letters ≡ in_front choices rest)
    (sym c.in_ok-push-in-Some.ensures.items)
    (at_letter letters i c.loop-letter.choices.items c.loop-letter.invariant c.loop-letter-test.true
    (Some c.in-Some.choice) c.in-Some.ensures
    ∙ one_more c.loop-letter.choices.items c.in-Some.choice rest)

pub returns-in-None : goal.returns-in-None
returns-in-None c =
    sym (at_letter c.args.letters.now c.loop-letter.letter-index c.loop-letter.choices.items
    c.loop-letter.invariant c.loop-letter-test.true None c.in-None.ensures)

pub returns : goal.returns
returns c =
    at_end c.args.letters.now c.loop-letter.letter-index c.loop-letter.choices.items
    c.loop-letter.invariant c.loop-letter-test.false
