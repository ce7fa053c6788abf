use Rattle.std.proofs.Common.{◌≡◌, ◌==◌, ◌∙◌, ◌∷◌, Bor, List, [], length, map, true, refl, sym}
use Rattle.std.proofs.Common.{arith}
use Rattle.std.proofs.lemmas.Bool.{eqb-true}
use Rattle.clap.specs.Words.{Text}
use Rattle.rc_args.proofs.WordsLemmas.{words_found}
use Rattle.rc_args.proofs.once_words.has_no_words.Goals as goal

-- a list has a length of none where what it is mapped to is empty, and only there
none_mapped : (words : List (Bor Text)) → (length words == 0) ≡ true → map (λ w. w.now) words ≡ []
none_mapped [] is = refl
none_mapped (w ∷ words) is =
    let none : length (w ∷ words) ≡ 0 = eqb-true (length (w ∷ words)) 0 is in
    absurd (omega (arith, none))

mapped_none : (words : List (Bor Text)) → map (λ w. w.now) words ≡ [] → (length words == 0) ≡ true
mapped_none [] is = refl
mapped_none (w ∷ words) is = cc

pub returns-in-Some : goal.returns-in-Some
returns-in-Some c =
    let same = words_found c.args.matches.now _ c.in-Some.ensures in (
      (λ is. sym same ∙ none_mapped c.in-Some.words.now (sym c.is_empty.ensures ∙ is)),
      (λ none. c.is_empty.ensures ∙ mapped_none c.in-Some.words.now (same ∙ none)),
    )

pub returns-in-None : goal.returns-in-None
returns-in-None c =
    let same = words_found c.args.matches.now _ c.in-None.ensures in
    ((λ is. sym same), (λ none. refl))
