use Rattle.std.proofs.Common.{◌≡◌, ◌∙◌, ℕ, List, [], Option, Some, None, IfSome, IfNone, Contains}
use Rattle.std.proofs.Common.{ap}
use Rattle.std.proofs.Common.{slice_get, sym}
use Rattle.std.proofs.lemmas.Option.{same_Some}
use Rattle.rc_model.specs.Database.{Database}
use Rattle.rc_model.proofs.Places.{contains_at}
use Rattle.rc_update.specs.Carrying.{IsTwin}
use Rattle.rc_update.specs.Conversions.{Conversion, conversions_of, counterpart}
use Rattle.rc_update.proofs.twins.twin.Goals as goal

-- the service as which one goes on, by the names of both
module _ (old new : Database) (list : List Conversion) (s : ℕ) (name other : List ℕ) where
  found_by : (found : Option ℕ) (names : List (List ℕ)) → names ≡ new.names
      → slice_get old.names s ≡ Some name → counterpart list name ≡ Some other
      → IfSome found (λ t. slice_get names t ≡ Some other) → IfSome found (IsTwin old new list s)
  found_by (Some t) names is at on there =
      (name, other, at, on, ap (λ (ns : List (List ℕ)). slice_get ns t) (sym is) ∙ there)
  found_by None names is at on there = tt

  missing_by : (found : Option ℕ) (names : List (List ℕ)) → names ≡ new.names
      → slice_get old.names s ≡ Some name → counterpart list name ≡ Some other
      → IfNone found (Contains names other → ⊥)
      → IfNone found ((t : ℕ) → IsTwin old new list s t → ⊥)
  missing_by (Some t) names is at on there = tt
  missing_by None names is at on lacks = λ t twin. lacks (there t twin)
    where
      there : (t : ℕ) → IsTwin old new list s t → Contains names other
      there t (a, x, at_old, also, at_new) =
          let one : a ≡ name = same_Some a name (sym at_old ∙ at) in
          let same : x ≡ other =
          same_Some x other (sym also ∙ ap (counterpart list) one ∙ on) in
          contains_at names t other
          (ap (λ (ns : List (List ℕ)). slice_get ns t) is ∙ at_new ∙ ap Some same)

  none_by : slice_get old.names s ≡ Some name → counterpart list name ≡ None
      → (t : ℕ) → IsTwin old new list s t → ⊥
  none_by at off t (a, x, at_old, on, at_new) =
      let one : a ≡ name = same_Some a name (sym at_old ∙ at) in
      let bad : None ≡ Some x = sym off ∙ ap (counterpart list) (sym one) ∙ on in cc

pub returns-clause-found : goal.returns-clause-found
returns-clause-found c =
    let old = c.args.old.now in
    let name = c.as_bytes.result.now in
    let named : slice_get old.names c.args.id ≡ Some name = cc c.name_of.ensures in
    found_by old c.args.new.now (conversions_of c.args.list.now) c.args.id name
    c.in-Some.name.now c.find_bytes.result c.names-names.result.now c.names-names.ensures.names
    named c.in-Some.ensures c.find_bytes.ensures.found

pub returns-clause-missing : goal.returns-clause-missing
returns-clause-missing c =
    let old = c.args.old.now in
    let name = c.as_bytes.result.now in
    let named : slice_get old.names c.args.id ≡ Some name = cc c.name_of.ensures in
    missing_by old c.args.new.now (conversions_of c.args.list.now) c.args.id name
    c.in-Some.name.now c.find_bytes.result c.names-names.result.now c.names-names.ensures.names
    named c.in-Some.ensures c.find_bytes.ensures.missing

pub returns-in_default-clause-missing : goal.returns-in_default-clause-missing
returns-in_default-clause-missing c =
    let old = c.args.old.now in
    let name = c.as_bytes.result.now in
    let named : slice_get old.names c.args.id ≡ Some name = cc c.name_of.ensures in
    none_by old c.args.new.now (conversions_of c.args.list.now) c.args.id name [] named
    c.in_default.ensures
