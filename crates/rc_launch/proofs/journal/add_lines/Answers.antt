use Rattle.std.proofs.Common.{◌≡◌, ◌∙◌, ◌<◌, ◌+◌, ◌&&◌, ◌++◌, ℕ, Bool, true}
use Rattle.std.proofs.Common.{ap, arith, codes, false, length, nat_lt, refl, sym}
use Rattle.std.proofs.lemmas.Bool.{lt-ltb, le-ltb}
use Rattle.rc_model.specs.Line.{states}
use Rattle.rc_historytext.specs.Text.{GenerationText}
use Rattle.rc_launch.specs.HistoryJournal.{border_text}
use Rattle.rc_launch.proofs.JournalLines.{are_passing, ends_whole, grows_by, in_row}
use Rattle.rc_launch.proofs.JournalLines.{lines_ended, not_passing}
use Rattle.rc_launch.proofs.journal.add_lines.Goals as goal
use Rattle.rc_launch.proofs.journal.add_lines.Goals.{else-generation-via-else-generation}
use Rattle.rc_launch.proofs.journal.add_lines.Goals.{
  else-generation-via-then-generation+else-count-gt1,
}

none_both : (a : Bool) {b : Bool} → b ≡ false → (a && b) ≡ false
none_both true stop = stop
none_both false stop = refl

pub returns-in_ok-pass_last : goal.returns-in_ok-pass_last
returns-in_ok-pass_last c =
    let g = c.args.generation.now in
    let old = c.args.text.now.items in
    let first = c.args.first in
    let count = length (states c.args.line.now.line) in
    let border = border_text first g count in
    let bordered = c.in_ok-add_border.ensures
    ∙ ap (λ (k : ℕ). old ++ border_text first g k) c.states-count.ensures.count in
    let (lines, are, grows) = c.in_ok-add_entries.ensures in
    let next : c.in-Some.next ≡ first + count =
    c.in-Some.ensures.1 ∙ ap (λ (k : ℕ). first + k) c.states-count.ensures.count in
    let some : 1 < length (states c.args.line.now.line) =
    omega (arith, c.states-count.ensures.count, c.if-count-gt1.true) in
    let (start, ends) = lines_ended c.args.db.now.names first (states c.args.line.now.line) lines
    some are in
    let marked : c.args.generation.now.last_passed ≡ true =
    sym (ap (λ (x : GenerationText). x.last_passed) c.generation.view_is)
    ∙ c.if-generation.true in
    let more : nat_lt 1 (length (states c.args.line.now.line)) ≡ true = lt-ltb 1 count some in
    let passed : (c.args.generation.now.last_passed
    && nat_lt 1 (length (states c.args.line.now.line))) ≡ true = rw marked (rw more refl) in (
      next,
      (
        lines,
        start ++ codes " ..\n",
        are,
        are_passing (g.last_passed && nat_lt 1 count) lines (start ++ codes " ..\n") start passed
            ends refl,
        c.in_ok-pass_last.ensures ((old ++ border) ++ start)
            (ends_whole c.add_entries.new.text.items c.add_border.new.text.items old border lines
            start grows bordered ends)
            ∙ in_row old border start (codes " ..\n"),
      ),
    )

pub returns-else-generation : goal.returns-else-generation
returns-else-generation c =
    let g = c.args.generation.now in
    let old = c.args.text.now.items in
    let first = c.args.first in
    let count = length (states c.args.line.now.line) in
    let border = border_text first g count in
    let bordered = c.in_ok-add_border.ensures
    ∙ ap (λ (k : ℕ). old ++ border_text first g k) c.states-count.ensures.count in
    let (lines, are, grows) = c.in_ok-add_entries.ensures in
    let next : c.in-Some.next ≡ first + count =
    c.in-Some.ensures.1 ∙ ap (λ (k : ℕ). first + k) c.states-count.ensures.count in
    let stays : (c.args.generation.now.last_passed
    && nat_lt 1 (length (states c.args.line.now.line))) ≡ false =
    elim c.else-generation.branch [
      | else-generation-via-then-generation+else-count-gt1 w ↦
          let few : nat_lt 1 (length (states c.args.line.now.line)) ≡ false =
          le-ltb 1 count (omega (arith, c.states-count.ensures.count, w.if-count-gt1.false)) in
          none_both c.args.generation.now.last_passed few
      | else-generation-via-else-generation w ↦
          let unmarked : c.args.generation.now.last_passed ≡ false =
          sym (ap (λ (x : GenerationText). x.last_passed) c.generation.view_is)
          ∙ w.if-generation.false in
          rw unmarked refl
    ] in (
      next,
      (
        lines,
        lines,
        are,
        not_passing (g.last_passed && nat_lt 1 count) lines stays,
        grows_by c.add_entries.new.text.items c.add_border.new.text.items old border lines grows
            bordered,
      ),
    )
