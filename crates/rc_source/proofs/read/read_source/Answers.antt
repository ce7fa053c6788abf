use Rattle.std.proofs.Common.{◌≡◌, ◌≢◌, ◌∙◌, length, map, sym, ap, subst, arith, string_bytes}
use Rattle.std.proofs.lemmas.List.{length-map}
use Rattle.rc_source.specs.declared.fault.Flaw.{Flaw}
use Rattle.rc_source.specs.declared.fault.Flaw.TheVariants.{Io, Memory}
use Rattle.rc_source.specs.TreeFaults.{HasFailed}
use Rattle.rc_source.specs.Said.{meant}
use Rattle.rc_source.specs.Tests.{StopsInTests, tests_of_entry, tests_of_entries, entries_of}
use Rattle.rc_source.specs.Tests.{flaw_of, name_carried}
use Rattle.rc_source.proofs.Folders.{shown_at}
use Rattle.rc_source.proofs.Reading.{EntriesRead, no_entry, one_entry, entry_stops, entries_stop}
use Rattle.rc_source.proofs.Reading.{source_passes, source_means}
use Rattle.rc_source.proofs.read.read_source.Goals as goal

-- a flaw that is told is another than out of memory
told_io : (told flaw : Flaw) (same : Type 0) → (told ≢ Memory → (told ≡ flaw) × same)
    → told ≡ Io → flaw ≡ Io
told_io told flaw same is io =
    sym (is (λ memory. let e : Io ≡ Memory = sym io ∙ memory in absurd cc)).0 ∙ io

pub loop-name-init : goal.loop-name-init
loop-name-init g c = record {
  same = c.in_ok-names.ensures.same;
  quiet = c.in_ok-names.ensures.quiet;
  known = λ source known. no_entry source c.args.found.now
      (map string_bytes c.deref-name-items.result.now);
}

pub returns-in-Err-clause-fault : goal.returns-in-Err-clause-fault
returns-in-Err-clause-fault g c = λ told source known.
    let fault = c.fault_of.result in
    let same = c.fault_of.ensures told in
    let items = c.deref-name-items.result.now in
    let entries = map string_bytes items in
    let entry = c.as_str-entry.result.now in
    let n = length-map items string_bytes in
    let tests = tests_of_entry (meant c.loop-name.found) source entry in
    let stops = c.in-Err.ensures.fault (λ memory. told (same.0 ∙ memory)) source
    (c.loop-name.invariant.same ∙ known) in
    entries_stop (meant c.args.found.now) source (flaw_of fault) (name_carried fault)
    (subst (λ es. StopsInTests (tests_of_entries (meant c.args.found.now) source es) (flaw_of fault)
    (name_carried fault)) (ap (map string_bytes) c.deref-name-items.ensures.value
    ∙ c.in_ok-names.ensures.names source known)
    (entry_stops source c.args.found.now c.loop-name.found entries c.loop-name.name-index
    entry (omega arith)
    (shown_at string_bytes items c.loop-name.name-index c.name-item.result entry c.name-item.is
    c.as_str-entry.ensures.value) (c.loop-name.invariant.known source known) (flaw_of fault)
    (name_carried fault)
    (subst (λ name. StopsInTests tests (flaw_of fault) name) (sym same.1)
    (subst (λ flaw. StopsInTests tests flaw entry) (sym same.0) stops))))

pub returns-in-Err-clause-io : goal.returns-in-Err-clause-io
returns-in-Err-clause-io g c = λ io.
    subst (λ n. HasFailed n (g.T.Tree.failed c.read_entry.new.tree)) c.loop-name.invariant.quiet
    (c.in-Err.ensures.asked.io
    (told_io (flaw_of c.fault_of.result) c.in-Err.flaw
    (name_carried c.fault_of.result ≡ c.as_str-entry.result.now) c.fault_of.ensures io))

pub returns-in-Err-clause-same : goal.returns-in-Err-clause-same
returns-in-Err-clause-same g c = c.in-Err.ensures.asked.same ∙ c.loop-name.invariant.same

pub returns-in-Err-clause-count : goal.returns-in-Err-clause-count
returns-in-Err-clause-count g c =
    omega (arith, c.loop-name.invariant.quiet, c.in-Err.ensures.asked.count)

pub loop-name-preserved : goal.loop-name-preserved
loop-name-preserved g c = record {
  same = c.in-Ok.ensures.asked.same ∙ c.loop-name.invariant.same;
  quiet = c.in-Ok.ensures.asked.quiet ∙ c.loop-name.invariant.quiet;
  known = λ source known.
      let items = c.deref-name-items.result.now in
      let entry = c.as_str-entry.result.now in
      let n = length-map items string_bytes in
      let now_known = c.loop-name.invariant.same ∙ known in
      let (m, added, means) = c.in-Ok.ensures.meaning source now_known in
      one_entry source c.args.found.now c.loop-name.found (map string_bytes items)
      c.loop-name.name-index entry (omega arith)
      (shown_at string_bytes items c.loop-name.name-index c.name-item.result entry c.name-item.is
      c.as_str-entry.ensures.value) (c.loop-name.invariant.known source known) m
      c.read_entry.new.found added means
      (c.in-Ok.ensures.passes source now_known);
}

pub returns-clause-meanings : goal.returns-clause-meanings
returns-clause-meanings g c = λ source known.
    let items = c.deref-name-items.result.now in
    let same = ap (map string_bytes) c.deref-name-items.ensures.value
    ∙ c.in_ok-names.ensures.names source known in
    let n = length-map items string_bytes in
    let k : length (map string_bytes items) ≡ length (entries_of source) = ap length same in
    source_means source c.args.found.now c.loop-name.found c.loop-name.name-index
    (omega (arith, n, k, c.loop-name-test.false))
    (subst (λ es. EntriesRead source c.args.found.now c.loop-name.found es c.loop-name.name-index)
    same (c.loop-name.invariant.known source known))

pub returns-clause-passes : goal.returns-clause-passes
returns-clause-passes g c = λ source known.
    let items = c.deref-name-items.result.now in
    let same = ap (map string_bytes) c.deref-name-items.ensures.value
    ∙ c.in_ok-names.ensures.names source known in
    let n = length-map items string_bytes in
    let k : length (map string_bytes items) ≡ length (entries_of source) = ap length same in
    source_passes source c.args.found.now c.loop-name.found c.loop-name.name-index
    (omega (arith, n, k, c.loop-name-test.false))
    (subst (λ es. EntriesRead source c.args.found.now c.loop-name.found es c.loop-name.name-index)
    same (c.loop-name.invariant.known source known))

pub returns-clause-same : goal.returns-clause-same
returns-clause-same g c = c.loop-name.invariant.same

pub returns-clause-count : goal.returns-clause-count
returns-clause-count g c = omega (arith, c.loop-name.invariant.quiet)

pub returns-clause-quiet : goal.returns-clause-quiet
returns-clause-quiet g c = c.loop-name.invariant.quiet
