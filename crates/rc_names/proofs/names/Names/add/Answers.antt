use Rattle.std.proofs.Common.{◌≡◌, ◌<◌, length, map, Contains, refl, sym, ◌∙◌, subst}
use Rattle.std.proofs.lemmas.Bool.{false≢true}
use Rattle.std.specs.String.{string_bytes}
use Rattle.std.specs.HashMap.{keys, values}
use Rattle.std.proofs.lemmas.Result.{IfOk-from_err}
use Rattle.rc_names.proofs.Inserting.{names_after, IsSorted-from_order, HasGrown}
use Rattle.rc_names.proofs.Adding.{is_there, is_absent, as_long}
use Rattle.rc_names.proofs.Adding.{on_refusal, shown_still, same_still}
use Rattle.rc_model.specs.Names.{IsInByteOrder, AreNames}
use Rattle.rc_names.proofs.Growth.{adds_none}
use Rattle.rc_names.proofs.names.Names.add.Goals as goal

-- what the table shows once the name is in
after : (c : goal.Joined-branch-3) → HasGrown string_bytes
    (keys c.insert_sorted.new.self) c.args.self.now c.args.name (values c.insert_sorted.new.self)
after c =
    let before = c.self.inside.table in
    let ensured = c.in_ok-insert_sorted.ensures in
    let sorted = ensured.sorted (IsSorted-from_order string_bytes (keys before)
    (subst IsInByteOrder (sym c.self.invariant.0) c.self.invariant.1.order)) in
    let room : length (values before) < 4096 =
    subst (λ texts. length texts < 4096) (sym c.self.view_is) c.requires in
    let shows : string_bytes c.in_ok-key.key ≡ c.args.name =
    c.in_ok-key.ensures.ok ∙ c.text-2.ensures.bytes in
    let absent = is_absent c.args.self.now c.args.name _ _ _ c.find.ensures.missing
    c.text.ensures.bytes c.is_some.ensures c.if-is_some.false in
    let fresh : Contains (values before) c.args.name
    → ⊥ = subst (λ texts. Contains texts c.args.name → ⊥) (sym c.self.view_is) absent in
    subst (λ texts. HasGrown string_bytes (keys c.insert_sorted.new.self) texts c.args.name
    (values c.insert_sorted.new.self)) c.self.view_is
    (names_after string_bytes before.entries c.insert_sorted.new.self.entries c.in_ok-key.key
    c.args.name c.in_ok-insert_sorted.field-0.0 ensured.index.0
    c.self.invariant.0 c.self.invariant.1 room c.text.ensures.name shows fresh
    ensured.index.1.0 ensured.index.2 ensured.entries sorted ensured.unique)

pub invariant_of-self-2 : goal.invariant_of-self-2
invariant_of-self-2 c = ((after c).shown, (after c).names)

pub returns-clause-holds : goal.returns-clause-holds
returns-clause-holds c = (after c).adds

pub returns-clause-len : goal.returns-clause-len
returns-clause-len c = (after c).longer

pub returns-clause-names : goal.returns-clause-names
returns-clause-names c = (after c).names

-- the name is among the names where it was found
there : (c : goal.After-drop-name) → Contains c.args.self.now c.args.name
there c = is_there c.args.self.now c.args.name _ _ _ c.find.ensures.found c.text.ensures.bytes
    c.is_some.ensures c.if-is_some.true

pub returns-then-is_some-clause-added : goal.returns-then-is_some-clause-added
returns-then-is_some-clause-added c = (
  λ added. absurd (false≢true added),
  λ absent. absurd (absent
      (there c)),
)

pub returns-then-is_some-clause-holds : goal.returns-then-is_some-clause-holds
returns-then-is_some-clause-holds c = adds_none c.args.self.now c.args.name (there c)

pub returns-then-is_some-clause-len : goal.returns-then-is_some-clause-len
returns-then-is_some-clause-len c = as_long _

pub returns-then-is_some-clause-names : goal.returns-then-is_some-clause-names
returns-then-is_some-clause-names c = subst AreNames c.self.view_is c.self.invariant.1

pub returns-then-is_some-clause-present : goal.returns-then-is_some-clause-present
returns-then-is_some-clause-present c = λ _. (refl, refl)

pub returns-in_err-key-clause-added : goal.returns-in_err-key-clause-added
returns-in_err-key-clause-added c = IfOk-from_err _ _ c.from_residual.ensures.0

pub returns-in_err-key-clause-holds : goal.returns-in_err-key-clause-holds
returns-in_err-key-clause-holds c = IfOk-from_err _ _ c.from_residual.ensures.0

pub returns-in_err-key-clause-len : goal.returns-in_err-key-clause-len
returns-in_err-key-clause-len c = IfOk-from_err _ _ c.from_residual.ensures.0

pub returns-in_err-key-clause-names : goal.returns-in_err-key-clause-names
returns-in_err-key-clause-names c = subst AreNames c.self.view_is c.self.invariant.1

pub returns-in_err-key-clause-present : goal.returns-in_err-key-clause-present
returns-in_err-key-clause-present c = λ has. absurd
    (is_absent c.args.self.now c.args.name _ _ _ c.find.ensures.missing c.text.ensures.bytes
    c.is_some.ensures c.if-is_some.false has)

pub returns-in_err-key-clause-err : goal.returns-in_err-key-clause-err
returns-in_err-key-clause-err c = on_refusal _ refl

-- what the table shows where the name did not go in
still : (c : goal.After-from_residual-in_err-insert_sorted)
    → (map string_bytes (keys c.insert_sorted.new.self) ≡ values c.insert_sorted.new.self) ×
    AreNames (values c.insert_sorted.new.self)
still c = shown_still string_bytes c.self.inside.table.entries c.insert_sorted.new.self.entries
    c.in_err-insert_sorted.ensures.err c.self.invariant.0 c.self.invariant.1

pub returns-in_err-insert_sorted-clause-added : goal.returns-in_err-insert_sorted-clause-added
returns-in_err-insert_sorted-clause-added c = IfOk-from_err _ _
    c.from_residual-in_err-insert_sorted.ensures.0

pub returns-in_err-insert_sorted-clause-holds : goal.returns-in_err-insert_sorted-clause-holds
returns-in_err-insert_sorted-clause-holds c = IfOk-from_err _ _
    c.from_residual-in_err-insert_sorted.ensures.0

pub returns-in_err-insert_sorted-clause-len : goal.returns-in_err-insert_sorted-clause-len
returns-in_err-insert_sorted-clause-len c = IfOk-from_err _ _
    c.from_residual-in_err-insert_sorted.ensures.0

pub returns-in_err-insert_sorted-clause-present : goal.returns-in_err-insert_sorted-clause-present
returns-in_err-insert_sorted-clause-present c =
    λ has. absurd (is_absent c.args.self.now c.args.name _ _ _ c.find.ensures.missing
    c.text.ensures.bytes c.is_some.ensures c.if-is_some.false has)

pub returns-clause-present : goal.returns-clause-present
returns-clause-present c = λ has. absurd (is_absent c.args.self.now c.args.name _ _ _
    c.find.ensures.missing c.text.ensures.bytes c.is_some.ensures c.if-is_some.false has)

pub returns-clause-added : goal.returns-clause-added
returns-clause-added c = (
  λ _. is_absent c.args.self.now c.args.name _ _ _ c.find.ensures.missing
      c.text.ensures.bytes c.is_some.ensures c.if-is_some.false,
  λ _. refl,
)

pub invariant_of-self : goal.invariant_of-self
invariant_of-self c = still c

pub returns-in_err-insert_sorted-clause-names : goal.returns-in_err-insert_sorted-clause-names
returns-in_err-insert_sorted-clause-names c = (still c).1

pub returns-in_err-insert_sorted-clause-err : goal.returns-in_err-insert_sorted-clause-err
returns-in_err-insert_sorted-clause-err c = on_refusal _
    (same_still c.self.inside.table.entries c.insert_sorted.new.self.entries _
    c.in_err-insert_sorted.ensures.err c.self.view_is)
