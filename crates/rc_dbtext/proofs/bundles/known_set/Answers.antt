use Rattle.std.proofs.Common.{◌≡◌, ◌∙◌, ◌<◌, ◌+◌, ◌∷◌, ◌++◌, [], ℕ, List, Some, All, Contains}
use Rattle.std.proofs.Common.{length, take, slice_get, arith, sym, ap, subst}
use Rattle.std.proofs.lemmas.List.{take_all, take_more}
use Rattle.std.proofs.lemmas.List.Elements.{All-push}
use Rattle.std.proofs.lemmas.Option.{slice_get_within}
use Rattle.rc_model.specs.Names.{Holds}
use Rattle.rc_model.proofs.Members.{contains_at}
use Rattle.rc_dbtext.specs.Parts.{IsNamed}
use Rattle.rc_dbtext.proofs.Bundling.{members_back}
use Rattle.rc_dbtext.proofs.Drafting.{named_one}
use Rattle.rc_dbtext.proofs.bundles.known_set.Goals as goal

pub returns-in_default-clause-unknown : goal.returns-in_default-clause-unknown
returns-in_default-clause-unknown c = λ all.
    c.in_default.ensures.missing (subst (Contains c.args.names.now)
    (sym (c.text.ensures.bytes ∙ c.text-item.is))
    (all c.loop-text.text-index c.text-item.result c.loop-text-test.true))

pub insert-requires : goal.insert-requires
insert-requires c =
    let within : c.in-Some.id < length c.args.names.now =
    slice_get_within c.args.names.now c.in-Some.id c.text.result.now c.in-Some.ensures.found in
    omega (arith, c.loop-text.invariant.bound)

pub loop-text-preserved : goal.loop-text-preserved
loop-text-preserved c =
    let front : List (List ℕ) = take c.loop-text.text-index c.args.texts.now in
    let more : take (c.loop-text.text-index + 1) c.args.texts.now ≡ front ++ c.text-item.result ∷ []
    = take_more c.args.texts.now c.loop-text.text-index c.text-item.result c.loop-text-test.true
    ∙ ap (λ (t : List ℕ). front ++ t ∷ []) (sym c.text-item.is) in
    let found : slice_get c.args.names.now c.in-Some.id ≡ Some c.text-item.result =
    c.in-Some.ensures.found ∙ ap Some c.text.ensures.bytes in
    let Named : List (List ℕ) → Type 0 =
    λ ws. Holds c.insert.new.self (IsNamed c.args.names.now ws) in
    let Known : List (List ℕ) → Type 0 = λ ws. All (Contains c.args.names.now) ws in
    record {
      bound = c.insert.ensures.bound ∙ c.loop-text.invariant.bound;
      members = subst Named (sym more)
          (named_one c.args.names.now front c.text-item.result c.in-Some.id c.loop-text.set
          c.insert.new.self c.len.ensures.names.order found c.loop-text.invariant.members
          c.insert.ensures.members);
      known = subst Known (sym more) (All-push (Contains c.args.names.now) front
          c.text-item.result c.loop-text.invariant.known
          (contains_at c.args.names.now c.in-Some.id c.text-item.result found));
    }

-- all texts were passed
pub returns-clause-known : goal.returns-clause-known
returns-clause-known c =
    let P : List (List ℕ) → Type 0 = λ ws. All (Contains c.args.names.now) ws in
    subst P (take_all c.loop-text.text-index c.args.texts.now c.loop-text-test.false)
    c.loop-text.invariant.known

pub returns-clause-members : goal.returns-clause-members
returns-clause-members c =
    let all = take_all c.loop-text.text-index c.args.texts.now c.loop-text-test.false in
    let Known : List (List ℕ) → Type 0 = λ ws. All (Contains c.args.names.now) ws in
    let Named : List (List ℕ) → Type 0 =
    λ ws. Holds c.loop-text.set (IsNamed c.args.names.now ws) in
    members_back c.args.names.now c.args.texts.now c.loop-text.set c.len.ensures.names.order
    c.requires (subst Known all c.loop-text.invariant.known)
    (subst Named all c.loop-text.invariant.members)
