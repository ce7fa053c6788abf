use Rattle.std.proofs.Common.{◌↔◌, IfOk, IsTrue, map, sym, subst}
use Rattle.rc_source.specs.Said.{meaning_of}
use Rattle.rc_compile.specs.declared.scan.Sought.{Sought}
use Rattle.rc_compile.specs.Book.{HasSought}
use Rattle.rc_compile.proofs.scan.has_sought.Goals as goal

pub returns-in-Unknown : goal.returns-in-Unknown
returns-in-Unknown c =
    let ms = map meaning_of c.args.definitions.now in
    let P : Sought
    → Type 0 = λ sought. IfOk c.has_unknown.result
    (λ has. IsTrue has ↔ HasSought ms sought c.args.definition.now.name) in
    subst P (sym c.in-Unknown.is) c.has_unknown.ensures
