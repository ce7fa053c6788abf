use Rattle.std.proofs.Common.{◌≡◌, ◌∙◌, ◌⊎◌, ⊎_elim, ℕ, Bool, true, false, true≢false, List}
use Rattle.std.proofs.Common.{Contains, length, map, string_bytes, refl, sym, subst, arith}
use Rattle.std.proofs.lemmas.List.{length-map}
use Rattle.std.proofs.lemmas.Option.{slice_get_within}
use Rattle.rc_model.specs.Database.{Bundles, IsBundle}
use Rattle.rc_model.specs.Line.{MayBeDefined}
use Rattle.rc_bundle.proofs.commands.check_among.Goals as goal
use Rattle.rc_bundle.proofs.commands.check_among.Goals.{else-not-is_there-via-then-not-is_there+else-len-ge-MAX_BUNDLES}
use Rattle.rc_bundle.proofs.commands.check_among.Goals.{else-not-is_there-via-else-not-is_there}

-- what the tests of the name tell
may : (names : List (List ℕ)) (table : Bundles) (name text again : List ℕ)
    (force is_service is_there : Bool) → text ≡ name → again ≡ name
    → (Contains names text → is_service ≡ true) → is_service ≡ false
    → (IsBundle table again → is_there ≡ true)
    → ((is_there ≡ true) × (force ≡ true)) ⊎ (is_there ≡ false)
    → MayBeDefined names table name force
may names table name text again force is_service is_there first second service other bundle either =
    record {
      no_service =
          λ there. true≢false (sym (service (subst (Contains names) (sym first) there)) ∙ other);
      fresh = λ plain there. ⊎_elim
          (λ forced. true≢false (sym forced.1 ∙ plain))
          (λ absent. true≢false (sym (bundle (subst (IsBundle table) (sym second) there)) ∙ absent))
          either;
    }

pub returns-then-has_name-clause-fault : goal.returns-then-has_name-clause-fault
returns-then-has_name-clause-fault c = (
  refl,
  subst (Contains c.args.names.now) c.text.ensures.bytes
      (c.has_name.ensures.0 c.if-has_name.true),
)

pub returns-then-not-force-clause-fault : goal.returns-then-not-force-clause-fault
returns-then-not-force-clause-fault c = (
  λ there. true≢false
      (sym (c.has_name.ensures.1
      (subst (Contains c.args.names.now) (sym c.text.ensures.bytes) there)) ∙ c.if-has_name.false),
  c.if-not-force.true,
  subst (IsBundle c.args.table.now) c.text-2.ensures.bytes
      (c.has_bundle-is_there.ensures.0 c.if-is_there.true),
)

pub overflow_add-result : goal.overflow_add-result
overflow_add-result c =
    let found = c.in-Some.ensures.some in
    omega (
      arith,
      slice_get_within (map string_bytes c.args.contents.now) c.in-Some.place found.0
          found.1,
      length-map c.args.contents.now string_bytes,
    )

pub returns-in-Some-clause-fault : goal.returns-in-Some-clause-fault
returns-in-Some-clause-fault c = (
  may c.args.names.now c.args.table.now c.args.name.now c.text.result.now c.text-2.result.now
      c.args.force c.has_name.result c.has_bundle-is_there.result
      c.text.ensures.bytes c.text-2.ensures.bytes c.has_name.ensures.1 c.if-has_name.false
      c.has_bundle-is_there.ensures.1 c.else-is_there.either,
  (c.in-Some.place, omega arith, c.in-Some.ensures.some),
)

pub returns-then-len-ge-MAX_BUNDLES-clause-fault : goal.returns-then-len-ge-MAX_BUNDLES-clause-fault
returns-then-len-ge-MAX_BUNDLES-clause-fault c = (
  may c.args.names.now c.args.table.now c.args.name.now c.text.result.now c.text-2.result.now
      c.args.force c.has_name.result c.has_bundle-is_there.result
      c.text.ensures.bytes c.text-2.ensures.bytes c.has_name.ensures.1 c.if-has_name.false
      c.has_bundle-is_there.ensures.1 c.else-is_there.either,
  c.in_default.ensures.none,
  λ there. true≢false
      (sym (c.has_bundle-is_there.ensures.1
      (subst (IsBundle c.args.table.now) (sym c.text-2.ensures.bytes) there))
      ∙ c.if-not-is_there.true),
  omega arith,
)

pub returns-clause-can : goal.returns-clause-can
returns-clause-can c = record {
  name_may =
      may c.args.names.now c.args.table.now c.args.name.now c.text.result.now c.text-2.result.now
      c.args.force c.has_name.result c.has_bundle-is_there.result
      c.text.ensures.bytes c.text-2.ensures.bytes c.has_name.ensures.1 c.if-has_name.false
      c.has_bundle-is_there.ensures.1 c.else-is_there.either;
  known = c.in_default.ensures.none;
  place = λ full. elim c.else-not-is_there.branch [
    | else-not-is_there-via-then-not-is_there+else-len-ge-MAX_BUNDLES w ↦ absurd (omega arith)
    | else-not-is_there-via-else-not-is_there w ↦
        subst (IsBundle c.args.table.now) c.text-2.ensures.bytes
        (c.has_bundle-is_there.ensures.0 w.if-not-is_there.false)
  ];
}
