use Rattle.std.proofs.Common.{◌≡◌, ◌∙◌, ◌+◌, List, ℕ, [], ◌∷◌, ◌++◌, All, Contains, take, arith}
use Rattle.std.proofs.Common.{sym, ap, refl, Some, subst}
use Rattle.std.proofs.lemmas.Bool.{false≢true}
use Rattle.std.proofs.lemmas.List.{take_more, take_all}
use Rattle.std.proofs.lemmas.List.Elements.{All-push}
use Rattle.rc_model.proofs.Members.{contains_at}
use Rattle.rc_dbtext.specs.Parts.{AreKnown, IsKnown}
use Rattle.rc_dbtext.proofs.complete.are_known.Goals as goal

pub loop-text-init : goal.loop-text-init
loop-text-init c = λ k d within. absurd (omega arith)

pub returns-in_default : goal.returns-in_default
unfolding AreKnown IsKnown
returns-in_default c = (
  λ yes. absurd (false≢true yes),
  λ all. absurd (c.in_default.ensures.missing (subst (Contains c.args.names.now)
      (sym (c.text.ensures.bytes ∙ c.text-item.is))
      (all c.loop-text.text-index c.text-item.result c.loop-text-test.true))),
)

pub loop-text-preserved : goal.loop-text-preserved
loop-text-preserved c =
    let front : List (List ℕ) = take c.loop-text.text-index c.args.texts.now in
    let more : take (c.loop-text.text-index + 1) c.args.texts.now ≡ front ++ c.text-item.result ∷ []
    = take_more c.args.texts.now c.loop-text.text-index c.text-item.result c.loop-text-test.true
    ∙ ap (λ (n : List ℕ). front ++ n ∷ []) (sym c.text-item.is) in
    let found = c.in-Some.ensures.found ∙ ap Some c.text.ensures.bytes in
    let P : List (List ℕ) → Type 0 = λ texts. All (Contains c.args.names.now) texts in
    subst P (sym more) (All-push (Contains c.args.names.now) front c.text-item.result
    c.loop-text.invariant (contains_at c.args.names.now c.in-Some.id c.text-item.result found))

pub returns : goal.returns
unfolding AreKnown IsKnown
returns c =
    let P : List (List ℕ) → Type 0 = λ texts. All (Contains c.args.names.now) texts in (
      λ yes. subst P (take_all c.loop-text.text-index c.args.texts.now c.loop-text-test.false)
          c.loop-text.invariant,
      λ all. refl,
    )
