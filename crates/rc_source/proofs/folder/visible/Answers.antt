use Rattle.std.proofs.Common.{◌≡◌, ◌↔◌, ◌⊎◌, ℕ, List, false, Contains, take, map, sym, subst, arith}
use Rattle.std.proofs.Common.{string_bytes}
use Rattle.std.proofs.lemmas.List.{take_all, length-map}
use Rattle.std.proofs.lemmas.Result.{IfOk-weaker}
use Rattle.rc_model.proofs.Mapped.{mapped_next}
use Rattle.rc_source.specs.Kinds.{is_hidden}
use Rattle.rc_source.proofs.Folders.{seen_more}
use Rattle.rc_source.proofs.folder.visible.Goals as goal

pub loop-name-preserved : goal.loop-name-preserved
loop-name-preserved c =
    let mid = map string_bytes c.loop-name.seen.keys in
    let new = map string_bytes c.add_visible.new.seen.keys in
    seen_more mid new (map string_bytes c.args.names.now) c.loop-name.name-index
    (string_bytes c.name-item.result)
    (mapped_next string_bytes c.args.names.now c.loop-name.name-index c.name-item.result
    c.loop-name-test.true c.name-item.is) c.loop-name.invariant
    (subst (λ name. (text : List ℕ)
    → Contains new text ↔ (Contains mid text ⊎ ((text ≡ name) × (is_hidden name ≡ false))))
    c.as_str.ensures.value c.in_ok-add_visible.ensures)

pub returns-clause-names : goal.returns-clause-names
returns-clause-names c =
    let names = map string_bytes c.args.names.now in
    let n = length-map c.args.names.now string_bytes in
    let whole : take c.loop-name.name-index names ≡ names =
    take_all c.loop-name.name-index names (omega (arith, c.loop-name-test.false)) in
    let all = subst (λ l. (text : List ℕ) → Contains (map string_bytes c.loop-name.seen.keys) text
    ↔ (Contains l text × (is_hidden text ≡ false))) whole c.loop-name.invariant in
    IfOk-weaker c.texts.result _ _
    (λ seen same. subst (λ l. (text : List ℕ)
    → Contains l text ↔ (Contains names text × (is_hidden text ≡ false))) (sym same) all)
    c.texts.ensures.texts
