use Rattle.std.proofs.Common.{◌≡◌, ◌↔◌, ◌⊎◌, ◌∙◌, ℕ, List, Contains, length, take, map, ap, subst}
use Rattle.std.proofs.Common.{arith, string_bytes}
use Rattle.std.proofs.Math.Seq.{take-length}
use Rattle.rc_source.proofs.Members.{adds_more}
use Rattle.rc_source.proofs.sets.add_names.Goals as goal

pub loop-name-preserved : goal.loop-name-preserved
loop-name-preserved c =
    adds_more (map string_bytes c.args.set.now.keys) (map string_bytes c.loop-name.set.keys)
    (map string_bytes c.add.new.set.keys) c.text.result.now c.args.names.now
    c.loop-name.name-index c.name-item.result c.loop-name-test.true
    (c.text.ensures.bytes ∙ c.name-item.is) c.loop-name.invariant c.in_ok-add.ensures.adds

pub returns : goal.returns
returns c =
    let all : c.loop-name.name-index ≡ length c.args.names.now =
    omega (arith, c.loop-name.auto.name-index-end, c.loop-name-test.false) in
    let whole = ap (λ n. take n c.args.names.now) all ∙ take-length c.args.names.now in
    subst (λ l. (text : List ℕ) → Contains (map string_bytes c.loop-name.set.keys) text
    ↔ (Contains (map string_bytes c.args.set.now.keys) text ⊎ Contains l text)) whole
    c.loop-name.invariant
