use Rattle.std.proofs.Common.{ℕ, List, Some, sym, string_bytes}
use Rattle.rc_script.specs.Processes.{IsProcessOf}
use Rattle.rc_script.proofs.Lined.{lined}
use Rattle.rc_script.proofs.processes.process_line.Goals as goal

pub returns-then-branch : goal.returns-then-branch
returns-then-branch c =
    let is = c.in_ok-tells_process.ensures c.if-branch.true in
    lined (λ (l : List ℕ). IsProcessOf c.args.name.now l (Some c.args.process))
    c.ended.result (string_bytes c.in_ok-line.line) c.as_bytes.result.now
    (sym c.as_bytes.ensures.value) is.0 is.1 c.ended.ensures
