use Rattle.std.proofs.Common.{◌∷◌, List, [], All, map, refl, subst, sym}
use Rattle.std.proofs.lemmas.List.Elements.{All-cons, All-head, All-map, All-nil, All-tail}
use Rattle.rc_args.specs.OnceAsked.{AreOneLine, IsOneLine}
use Rattle.rc_args.proofs.WordsLemmas.{words_found}
use Rattle.rc_args.proofs.once_words.are_one_line.Goals as goal

-- what holds of all values of a list holds of what they are the values of
unmapped : {X Y : Type 0} (P : X → Type 0) (f : Y → X) (ys : List Y) → All P (map f ys)
    → All (λ y. P (f y)) ys
unmapped P f [] all = All-nil (λ y. P (f y))
unmapped P f (y ∷ ys) all = All-cons (λ y. P (f y)) y ys (All-head P (f y) (map f ys) all)
    (unmapped P f ys (All-tail P (f y) (map f ys) all))

pub returns-in-Some : goal.returns-in-Some
returns-in-Some c =
    let same = words_found c.args.matches.now _ c.in-Some.ensures in (
      (λ is. subst AreOneLine same
          (All-map IsOneLine (λ w. w.now) c.in-Some.words.now (c.are_all_one_line.ensures.0 is))),
      (λ all. c.are_all_one_line.ensures.1
          (unmapped IsOneLine (λ w. w.now) c.in-Some.words.now (subst AreOneLine (sym same) all))),
    )

pub returns-in-None : goal.returns-in-None
returns-in-None c =
    let same = words_found c.args.matches.now _ c.in-None.ensures in
    ((λ is. subst AreOneLine same (All-nil IsOneLine)), (λ all. refl))
