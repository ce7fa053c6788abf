use Rattle.std.proofs.Common.{◌≡◌, ◌∙◌, ◌<◌, ◌+◌, List, ℕ, [], ◌∷◌, ◌++◌, All, Contains, length}
use Rattle.std.proofs.Common.{take, arith, sym, ap, refl, Some, subst}
use Rattle.std.proofs.lemmas.Bool.{false≢true}
use Rattle.std.proofs.lemmas.List.{take_more, take_all}
use Rattle.std.proofs.lemmas.List.Elements.{All-push}
use Rattle.std.proofs.lemmas.Option.{slice_get_within}
use Rattle.rc_model.proofs.Members.{contains_at}
use Rattle.rc_dbtext.proofs.Drafting.{HasAdded, added_none, added_one}
use Rattle.rc_dbtext.proofs.build.add_needs.Goals as goal

pub loop-need-init : goal.loop-need-init
loop-need-init c = record {
  added = added_none c.args.names.now c.args.service c.args.draft.now;
  known = λ k d within. absurd (omega arith);
}

pub returns-in_default-clause-known : goal.returns-in_default-clause-known
returns-in_default-clause-known c = (
  λ yes. absurd (false≢true yes),
  λ all. absurd (c.in_default.ensures.missing (subst (Contains c.args.names.now)
      (sym (c.text.ensures.bytes ∙ c.need-item.is))
      (all c.loop-need.need-index c.need-item.result c.loop-need-test.true))),
)

pub returns-in_default-clause-pairs : goal.returns-in_default-clause-pairs
returns-in_default-clause-pairs c = λ yes. absurd (false≢true yes)

pub need-requires-clause-needed : goal.need-requires-clause-needed
need-requires-clause-needed c =
    let within : c.in-Some.id < length c.args.names.now =
    slice_get_within c.args.names.now c.in-Some.id c.text.result.now c.in-Some.ensures.found in
    omega (arith, c.loop-need.invariant.added.bound, c.requires.bound)

pub loop-need-preserved : goal.loop-need-preserved
loop-need-preserved c =
    let front : List (List ℕ) = take c.loop-need.need-index c.args.needs.now in
    let more : take (c.loop-need.need-index + 1) c.args.needs.now ≡ front ++ c.need-item.result ∷ []
    = take_more c.args.needs.now c.loop-need.need-index c.need-item.result c.loop-need-test.true
    ∙ ap (λ (n : List ℕ). front ++ n ∷ []) (sym c.need-item.is) in
    let found = c.in-Some.ensures.found ∙ ap Some c.text.ensures.bytes in
    let P : List (List ℕ) → Type 0 = λ needs. All (Contains c.args.names.now) needs in
    record {
      added = rw more (added_one c.args.names.now c.args.service c.args.draft.now c.loop-need.draft
          c.need.new.self front c.need-item.result c.in-Some.id c.len-count.ensures.names.order
          c.loop-need.invariant.added found c.need.ensures.bound c.in_ok-need.ensures.pairs);
      known = subst P (sym more) (All-push (Contains c.args.names.now) front c.need-item.result
          c.loop-need.invariant.known
          (contains_at c.args.names.now c.in-Some.id c.need-item.result found));
    }

pub returns-clause-known : goal.returns-clause-known
returns-clause-known c =
    let P : List (List ℕ) → Type 0 = λ needs. All (Contains c.args.names.now) needs in (
      λ yes. subst P (take_all c.loop-need.need-index c.args.needs.now c.loop-need-test.false)
          c.loop-need.invariant.known,
      λ all. refl,
    )

pub returns-clause-pairs : goal.returns-clause-pairs
returns-clause-pairs c = λ yes.
    (subst (HasAdded c.args.names.now c.args.service c.args.draft.now c.loop-need.draft)
    (take_all c.loop-need.need-index c.args.needs.now c.loop-need-test.false)
    c.loop-need.invariant.added).pairs
