use Rattle.std.proofs.Common.{◌≡◌, [], vec_items}
use Rattle.std.specs.List.{All}
use Rattle.rc_board.specs.declared.crew.Tools.{Tools}
use Rattle.rc_board.proofs.crew.tools_of.Given as goal

abbrev pub invariant-loop : goal.invariant-loop
invariant-loop l = All (λ (tools : Tools). tools.pad.notes ≡ []) (vec_items l.all)
