use Rattle.std.proofs.Common.{◌≡◌, ◌==◌, inl, ℕ, true, false, List, [], ◌∷◌, length, map, refl, sym}
use Rattle.std.proofs.Common.{arith}
use Rattle.std.proofs.lemmas.Bool.{eqb-true}
use Rattle.rc_select.specs.declared.request.Choice.{Choice}
use Rattle.rc_script.specs.Says.{Saying, SaysWrong, HasName, IsSaid, alone, plain, saying_of}
use Rattle.rc_script.proofs.line.alone.Goals.{else-is_empty-via-else-is_empty}
use Rattle.rc_script.proofs.line.alone.Goals.{else-is_empty-via-then-is_empty+else-is_empty-2}
use Rattle.rc_script.proofs.line.alone.Goals as goal

module _ {X : Type 0} (text : X → List ℕ) (saying : Saying) where
  stands_alone : (choices : List Choice) (words : List X) → HasName saying
      → true ≡ (length choices == 0) → true ≡ (length words == 0)
      → IsSaid (plain (alone saying (map text words)) choices) saying
  stands_alone [] [] named first second = inl (named, refl)
  stands_alone [] (word ∷ words) named first second =
      let none : length (word ∷ words) ≡ 0 = eqb-true _ _ (sym second) in absurd (omega arith)
  stands_alone (choice ∷ choices) words named first second =
      let none : length (choice ∷ choices) ≡ 0 = eqb-true _ _ (sym first) in absurd (omega arith)

  wrong_before : (choices : List Choice) (words : List X) → false ≡ (length choices == 0)
      → IsSaid (plain (alone saying (map text words)) choices) SaysWrong
  wrong_before [] words some = absurd (let bad : false ≡ true = some in cc)
  wrong_before (choice ∷ choices) words some = inl (tt, refl)

  wrong_after : (choices : List Choice) (words : List X) → false ≡ (length words == 0)
      → IsSaid (plain (alone saying (map text words)) choices) SaysWrong
  wrong_after choices [] some = absurd (let bad : false ≡ true = some in cc)
  wrong_after [] (word ∷ words) some = inl (tt, refl)
  wrong_after (choice ∷ choices) (word ∷ words) some = inl (tt, refl)

pub returns-then-is_empty-2 : goal.returns-then-is_empty-2
returns-then-is_empty-2 c =
    stands_alone (λ word. word.now) (saying_of c.args.line) c.args.choices.now c.args.words.now
    c.requires c.if-is_empty.ensures c.if-is_empty-2.ensures

pub returns : goal.returns
returns c = elim c.else-is_empty.branch [
  | else-is_empty-via-then-is_empty+else-is_empty-2 w ↦
      wrong_after (λ word. word.now) (saying_of c.args.line) c.args.choices.now c.args.words.now
      w.if-is_empty-2.ensures
  | else-is_empty-via-else-is_empty w ↦
      wrong_before (λ word. word.now) (saying_of c.args.line) c.args.choices.now c.args.words.now
      w.if-is_empty.ensures
]
