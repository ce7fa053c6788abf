use Rattle.std.proofs.Common.{List, ℕ, Option, IfNone, IfSome, map, sym, subst}
use Rattle.rc_source.specs.Said.{meaning_of}
use Rattle.rc_compile.specs.Along.{IsLeast}
use Rattle.rc_compile.specs.CompileFaults.{HasEntryFlaw, IsCompileFault}
use Rattle.rc_compile.proofs.Leading.{told_first}
use Rattle.rc_compile.proofs.scan.test_entries.Goals as goal

pub returns-in-None-clause-none : goal.returns-in-None-clause-none
returns-in-None-clause-none c =
    let None_has : Option (List ℕ)
    → Type 0 =
    λ found. IfNone found ((s : List ℕ)
    → HasEntryFlaw (map meaning_of c.args.definitions.now) c.args.flaw s → ⊥) in
    let none = subst None_has c.in-None.is c.in_ok-entry.ensures.none in λ (s, has). none s has

pub returns-in-Some-clause-fault : goal.returns-in-Some-clause-fault
returns-in-Some-clause-fault c =
    let ms = map meaning_of c.args.definitions.now in
    let Least : Option (List ℕ) → Type 0 =
    λ found. IfSome found (IsLeast (HasEntryFlaw ms c.args.flaw)) in
    let first = told_first ms c.args.flaw c.in-Some.entry
    (c.requires.before, subst Least c.in-Some.is c.in_ok-entry.ensures.some) in
    subst (IsCompileFault ms) (sym c.of.ensures) first
