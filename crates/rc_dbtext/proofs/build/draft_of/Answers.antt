use Rattle.std.proofs.Common.{◌≡◌, ◌∙◌, List, ℕ, All, Contains, get_or, length, arith, sym, ap}
use Rattle.std.proofs.Common.{subst}
use Rattle.std.proofs.lemmas.Bool.{false≢true}
use Rattle.std.proofs.lemmas.List.{get_or_default, length-map}
use Rattle.rc_dbtext.specs.Text.{ServiceText}
use Rattle.rc_dbtext.proofs.Drafting.{HasAdded, HasDrafted, drafted_all, drafted_none, drafted_one}
use Rattle.rc_dbtext.proofs.Drafting.{known_all, known_one, no_service}
use Rattle.rc_dbtext.proofs.build.draft_of.Goals as goal

pub loop-s-init : goal.loop-s-init
loop-s-init c = record {
  drafted =
      subst (λ (d : List (List ℕ)). HasDrafted c.args.names.now c.args.services.now d 0)
      (sym c.in_ok-draft.ensures)
      (drafted_none c.args.names.now c.args.services.now c.len.result
      (c.len.ensures.len ∙ ap length c.requires.names
      ∙ length-map c.args.services.now (λ (s : ServiceText). s.head.name)));
  known = λ k low. absurd (omega arith);
}

pub returns-then-not-branch : goal.returns-then-not-branch
returns-then-not-branch c = λ all.
    let is : c.as_slice.result.now
    ≡ (get_or c.args.services.now c.loop-s.s no_service).needs =
    c.as_slice.ensures.value ∙ ap (λ (x : ServiceText). x.needs)
    (c.service.view_is ∙ c.index-services-s.is
    ∙ get_or_default c.args.services.now c.loop-s.s c.index-services-s.result no_service
    c.loop-s-test.true) in
    let P : List (List ℕ) → Type 0 = λ texts. All (Contains c.args.names.now) texts in
    let its : P (get_or c.args.services.now c.loop-s.s no_service).needs =
    all c.loop-s.s no_service c.loop-s-test.true in
    false≢true (sym c.if-not-branch.true
    ∙ c.in_ok-add_needs.ensures.known.1 (subst P (sym is) its))

pub loop-s-preserved : goal.loop-s-preserved
loop-s-preserved c =
    let is : c.as_slice.result.now
    ≡ (get_or c.args.services.now c.loop-s.s no_service).needs =
    c.as_slice.ensures.value ∙ ap (λ (x : ServiceText). x.needs)
    (c.service.view_is ∙ c.index-services-s.is
    ∙ get_or_default c.args.services.now c.loop-s.s c.index-services-s.result no_service
    c.loop-s-test.true) in
    let P : List (List ℕ) → Type 0 = λ texts. All (Contains c.args.names.now) texts in
    let added : HasAdded c.args.names.now c.loop-s.s c.loop-s.draft c.add_needs.new.draft
    c.as_slice.result.now =
    record {
      bound = c.add_needs.ensures.bound;
      pairs = c.in_ok-add_needs.ensures.pairs c.if-not-branch.false;
    } in
    record {
      drafted = drafted_one c.args.names.now c.args.services.now c.loop-s.draft
          c.add_needs.new.draft c.loop-s.s c.loop-s.invariant.drafted
          (subst (HasAdded c.args.names.now c.loop-s.s c.loop-s.draft c.add_needs.new.draft) is
          added);
      known = known_one c.args.names.now c.args.services.now c.loop-s.s c.loop-s.invariant.known
          (subst P is (c.in_ok-add_needs.ensures.known.0 c.if-not-branch.false));
    }

pub returns : goal.returns
returns c =
    let known = known_all c.args.names.now c.args.services.now c.loop-s.s c.loop-s.invariant.known
    c.loop-s-test.false in (
      known,
      drafted_all c.args.names.now c.args.services.now c.loop-s.draft c.loop-s.s
          c.loop-s.invariant.drafted c.loop-s-test.false c.len-count.ensures.lists
          c.len.ensures.names.order c.requires.sorted known,
    )
