use Rattle.std.proofs.Common.{◌≡◌, ◌+◌, ◌⊎◌, List, ℕ, take, Contains, arith}
use Rattle.rc_compile.proofs.Mentioned.{added_none, added_then, added_all, part_none, some_next}
use Rattle.rc_compile.proofs.unknown.add_unknown.Goals as goal

pub loop-name-init : goal.loop-name-init
loop-name-init c =
    let Not : List ℕ → Type 0 =
    λ name. Contains c.args.services.now name ⊎ Contains c.args.bundles.now name → ⊥ in
    added_none c.args.unknown.now.items (λ name. Contains (take 0 c.args.names.now) name × Not name)
    (λ x (there, not). part_none c.args.names.now x there)

pub loop-name-preserved : goal.loop-name-preserved
loop-name-preserved c =
    let names = c.args.names.now in
    let i = c.loop-name.name-index in
    let Not : List ℕ → Type 0 =
    λ name. Contains c.args.services.now name ⊎ Contains c.args.bundles.now name → ⊥ in
    added_then c.args.unknown.now.items c.loop-name.unknown.items c.add_if_unknown.new.unknown.items
    (λ name. Contains (take i names) name × Not name)
    (λ name. (name ≡ c.name-item.result) × Not name)
    (λ name. Contains (take (i + 1) names) name × Not name) c.loop-name.invariant
    c.in_ok-add_if_unknown.ensures
    (some_next Not names i c.name-item.result (omega arith) c.name-item.is)

pub returns : goal.returns
returns c =
    let Not : List ℕ → Type 0 =
    λ name. Contains c.args.services.now name ⊎ Contains c.args.bundles.now name → ⊥ in
    added_all c.args.unknown.now.items c.loop-name.unknown.items c.args.names.now Not
    c.loop-name.name-index (omega arith) c.loop-name.invariant
