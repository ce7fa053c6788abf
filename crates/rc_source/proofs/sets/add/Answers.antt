use Rattle.std.proofs.Common.{◌≡◌, ◌↔◌, Bool, true, false, not, Contains, map, sym, subst, ◌∙◌}
use Rattle.std.proofs.Common.{refl, true≢false, string_bytes}
use Rattle.std.specs.BTreeSet.{insert_key}
use Rattle.std.specs.Bool.{IsTrue}
use Rattle.rc_names.specs.Names.{Adds}
use Rattle.rc_source.proofs.TextSets.{IsInByteOrder-from_keys, Adds-insert_key, Contains-from_any}
use Rattle.rc_source.proofs.TextSets.{any-from_Contains, by_bytes}
use Rattle.rc_source.proofs.sets.add.Goals as goal

pub returns-clause-order : goal.returns-clause-order
returns-clause-order c =
    IsInByteOrder-from_keys string_bytes c.insert.new.self.keys c.insert.ensures.ordered

pub returns-clause-adds : goal.returns-clause-adds
returns-clause-adds c =
    let put = Adds-insert_key string_bytes c.args.set.now.keys c.in_ok-text.text in
    let shown =
    subst (λ text. Adds (map string_bytes c.args.set.now.keys) text
    (map string_bytes (insert_key (by_bytes string_bytes) c.args.set.now.keys c.in_ok-text.text)))
    c.in_ok-text.ensures.ok put in
    subst (λ keys. Adds (map string_bytes c.args.set.now.keys) c.args.text.now
    (map string_bytes keys)) (sym c.in_ok-insert.ensures.keys) shown

-- a test that is not the other's answer
is_not : (b a : Bool) (P : Type 0) → b ≡ not a → (a ≡ true → P) → (P → a ≡ true)
    → IsTrue b ↔ (P → ⊥)
is_not b true P e to from = (λ yes. absurd (true≢false (sym yes ∙ e)), λ no. absurd (no (to refl)))
is_not b false P e to from = (λ yes there. absurd (true≢false (sym (from there))), λ no. e)

pub returns-clause-added : goal.returns-clause-added
returns-clause-added c =
    subst (λ text. IsTrue c.in_ok-insert.field-0
    ↔ (Contains (map string_bytes c.args.set.now.keys) text → ⊥)) c.in_ok-text.ensures.ok
    (is_not c.in_ok-insert.field-0 _ _ c.in_ok-insert.ensures.added
    (Contains-from_any string_bytes c.args.set.now.keys _)
    (any-from_Contains string_bytes c.args.set.now.keys _))
