use Rattle.std.proofs.Common.{◌≡◌, ◌∙◌, ◌++◌, ℕ, Bool, true, false, List, [], cond, inl, inr, take}
use Rattle.std.proofs.Common.{drop, refl, ap, sym}
use Rattle.std.specs.Result.{is_ok}
use Rattle.std.proofs.lemmas.List.{append-nil, take-append-drop}
use Rattle.rc_recovery.specs.Files.{Append, Torn}
use Rattle.scenarios.proofs.samples.files.MemoryFilesTwoFiles.append_log.Goals as goal

-- the front of the bytes for which there are steps is appended, where there is memory
torn : (file old new bytes : List ℕ) (count : ℕ) (ok : Bool)
    → new ≡ cond ok (old ++ take count bytes) old
    → Torn (record { file = file; log = old }) (Append bytes) (record { file = file; log = new })
torn file old new bytes count true is = (
  take count bytes,
  (drop count bytes, sym (take-append-drop count bytes)),
  ap (λ (log : List ℕ). record { file = file; log = log }) is,
)
torn file old new bytes count false is = (
  [],
  (bytes, refl),
  ap (λ (log : List ℕ). record { file = file; log = log }) (is ∙ sym (append-nil old)),
)

pub returns-else-whole-2-clause-moment : goal.returns-else-whole-2-clause-moment
returns-else-whole-2-clause-moment c =
    inr (inl (torn c.args.self.now.file.items c.args.self.now.log.items
    c.extend_from_slice.new.self.items c.args.bytes.now c.if-whole.count
    (is_ok c.extend_from_slice.result) c.extend_from_slice.ensures.items))

pub returns-else-whole-2-clause-crash : goal.returns-else-whole-2-clause-crash
returns-else-whole-2-clause-crash c = λ g same.
    let part = torn c.args.self.now.file.items c.args.self.now.log.items
    c.extend_from_slice.new.self.items c.args.bytes.now c.if-whole.count
    (is_ok c.extend_from_slice.result) c.extend_from_slice.ensures.items in
    inr (inr (inl (part.0, part.1, same ∙ part.2)))
