use Rattle.std.proofs.Common.{◌<◌, length, map, arith}
use Rattle.rc_source.specs.Said.{meaning_of}
use Rattle.rc_compile.specs.CompileFaults.{HaveFlaw, OfEntry, entry_flaws}
use Rattle.rc_compile.proofs.Passing.{passed_next}
use Rattle.rc_compile.proofs.Stages.{at_entry, at_last, ends_at, flaw_at}
use Rattle.rc_compile.proofs.tests.test_flaws.Goals as goal

pub test_entries-requires-clause-before : goal.test_entries-requires-clause-before
test_entries-requires-clause-before c =
    let i = c.loop-flaw.flaw-index in
    let low : i < length c.entry_flaws-flaw-items.result.now = omega arith in
    let here =
    flaw_at c.entry_flaws-flaw-items.result.now c.entry_flaws-flaw-items.ensures i _ low in
    at_entry (map meaning_of c.args.definitions.now) c.requires.few c.requires.known c.requires.free
    i _ here c.loop-flaw.invariant

pub loop-flaw-preserved : goal.loop-flaw-preserved
loop-flaw-preserved c =
    let ms = map meaning_of c.args.definitions.now in
    let i = c.loop-flaw.flaw-index in
    let low : i < length c.entry_flaws-flaw-items.result.now = omega arith in
    let here =
    flaw_at c.entry_flaws-flaw-items.result.now c.entry_flaws-flaw-items.ensures i _ low in
    passed_next (λ flaw. HaveFlaw ms (OfEntry flaw) → ⊥) entry_flaws i _ here c.loop-flaw.invariant
    c.in_ok-test_entries.ensures.none

pub returns-clause-before : goal.returns-clause-before
returns-clause-before c =
    let i = c.loop-flaw.flaw-index in
    at_last (map meaning_of c.args.definitions.now) c.requires.few c.requires.known c.requires.free
    i (ends_at c.entry_flaws-flaw-items.result.now c.entry_flaws-flaw-items.ensures i (omega arith))
    c.loop-flaw.invariant
