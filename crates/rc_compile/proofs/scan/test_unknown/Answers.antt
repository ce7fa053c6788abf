use Rattle.std.proofs.Common.{List, ℕ, Option, IfNone, IfSome, map, subst}
use Rattle.rc_source.specs.Said.{meaning_of}
use Rattle.rc_compile.specs.Along.{IsLeast}
use Rattle.rc_compile.specs.declared.scan.Sought.TheVariants.{Unknown}
use Rattle.rc_compile.specs.Book.{IsSought}
use Rattle.rc_compile.specs.CompileFaults.{IsCompileFault}
use Rattle.rc_compile.proofs.Shown.{least_with_unknown, sought_unknown}
use Rattle.rc_compile.proofs.scan.test_unknown.Goals as goal

pub returns-in_default-clause-none : goal.returns-in_default-clause-none
returns-in_default-clause-none c =
    let ms = map meaning_of c.args.definitions.now in
    let None_has : Option (List ℕ) → Type 0 =
    λ found. IfNone found ((s : List ℕ) → IsSought ms Unknown s → ⊥) in
    let none = subst None_has c.in_default.is c.in_ok-entry.ensures.none in
    λ (s, has). none s ((sought_unknown ms s).1 has)

pub least_unknown-requires-clause-flaw : goal.least_unknown-requires-clause-flaw
least_unknown-requires-clause-flaw c =
    let ms = map meaning_of c.args.definitions.now in
    let Least : Option (List ℕ) → Type 0 = λ found. IfSome found (IsLeast (IsSought ms Unknown)) in
    let least = subst Least c.in-Some.is c.in_ok-entry.ensures.some in
    (least_with_unknown ms c.in-Some.entry least).0

pub returns-clause-fault : goal.returns-clause-fault
unfolding IsCompileFault
returns-clause-fault c =
    let ms = map meaning_of c.args.definitions.now in
    let Least : Option (List ℕ) → Type 0 = λ found. IfSome found (IsLeast (IsSought ms Unknown)) in
    let least = subst Least c.in-Some.is c.in_ok-entry.ensures.some in
    (c.requires.before, least_with_unknown ms c.in-Some.entry least, c.in_ok-name.ensures)
