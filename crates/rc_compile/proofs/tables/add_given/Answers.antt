use Rattle.std.proofs.Common.{◌≡◌, ◌⊎◌, ◌↔◌, ℕ, List, Contains, false, subst, sym}
use Rattle.std.specs.Prelude.{IsTrue}
use Rattle.std.proofs.lemmas.Result.{IfOk-weaker}
use Rattle.rc_names.specs.Names.{Adds}
use Rattle.rc_source.specs.Said.{meaning_of}
use Rattle.rc_compile.specs.Given.{Gives, IsFull}
use Rattle.rc_compile.proofs.Givens.{given_adds}
use Rattle.rc_compile.proofs.tables.add_given.Goals as goal

pub returns-in-Some-clause-adds : goal.returns-in-Some-clause-adds
returns-in-Some-clause-adds c =
    let old = c.args.names.now in
    let new = c.add_name.new.names in
    let m = meaning_of c.args.definition.now in
    let name = c.in-Some.name.now in
    IfOk-weaker c.add_name.result (λ fits. IsTrue fits → Adds old name new) (λ fits. IsTrue fits
    → (n : List ℕ) → Contains new n ↔ (Contains old n ⊎ Gives c.args.which m n))
    (λ fits adds yes. given_adds c.args.which m old new name c.in-Some.ensures.some (adds yes))
    c.add_name.ensures.adds

pub returns-in-Some-clause-full : goal.returns-in-Some-clause-full
returns-in-Some-clause-full c =
    let Given : List ℕ → Type 0 = Gives c.args.which (meaning_of c.args.definition.now) in
    IfOk-weaker c.add_name.result (λ fits. fits ≡ false
    → IsFull c.args.names.now (λ other. other ≡ c.in-Some.name.now)) (λ fits. fits ≡ false
    → IsFull c.args.names.now Given)
    (λ fits full no. let (n, same, new, room) = full no in
    (n, subst Given (sym same) c.in-Some.ensures.some, new, room)) c.add_name.ensures.full
