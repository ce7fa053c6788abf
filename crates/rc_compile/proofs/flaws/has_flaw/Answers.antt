use Rattle.std.proofs.Common.{◌↔◌, List, IsTrue, ℕ, map, sym, subst}
use Rattle.std.specs.Global.{Vec}
use Rattle.rc_compile.specs.Rows.{rows}
use Rattle.rc_source.specs.Said.{meaning_of}
use Rattle.rc_compile.specs.declared.flaws.EntryFlaw.{EntryFlaw}
use Rattle.rc_compile.specs.Book.{IsUnmatched}
use Rattle.rc_compile.specs.CompileFaults.{HasFlaw}
use Rattle.rc_compile.proofs.Shown.{type_same, match_same, taken_same}
use Rattle.rc_compile.proofs.flaws.has_flaw.Goals as goal

pub returns-in-PipelineType : goal.returns-in-PipelineType
returns-in-PipelineType c =
    let ms = map meaning_of c.args.definitions.now in
    let m = meaning_of c.args.definition.now in
    let shows = c.joins_other.ensures in
    let same =
    type_same ms c.args.book.now c.requires.meanings c.requires.book m c.requires.within in
    let P : EntryFlaw → Type 0 = λ flaw. IsTrue c.joins_other.result ↔ HasFlaw ms flaw m.name in
    subst P (sym c.in-PipelineType.is) (λ yes. same.0 (shows.0 yes), λ has. shows.1 (same.1 has))

pub returns-in-PipelineMismatch : goal.returns-in-PipelineMismatch
returns-in-PipelineMismatch c =
    let ms = map meaning_of c.args.definitions.now in
    let book = c.args.book.now in
    let m = meaning_of c.args.definition.now in
    let Fed : List (Vec ℕ) → Type 0 =
    λ v. IsTrue c.is_unmatched.result ↔ IsUnmatched book.services (rows v) book.matched m in
    let shows = subst Fed c.deref.ensures.value c.is_unmatched.ensures in
    let same = match_same ms book c.requires.meanings c.requires.book m c.requires.within in
    let P : EntryFlaw → Type 0 = λ flaw. IsTrue c.is_unmatched.result ↔ HasFlaw ms flaw m.name in
    subst P (sym c.in-PipelineMismatch.is) (
      λ yes. same.0 (shows.0 yes),
      λ has. shows.1 (same.1 has),
    )

pub returns-in-PipelineName : goal.returns-in-PipelineName
returns-in-PipelineName c =
    let ms = map meaning_of c.args.definitions.now in
    let m = meaning_of c.args.definition.now in
    let shows = c.has_taken_name.ensures in
    let same =
    taken_same ms c.args.book.now c.requires.meanings c.requires.book m c.requires.within in
    let P : EntryFlaw → Type 0 = λ flaw. IsTrue c.has_taken_name.result ↔ HasFlaw ms flaw m.name in
    subst P (sym c.in-PipelineName.is) (λ yes. same.0 (shows.0 yes), λ has. shows.1 (same.1 has))
