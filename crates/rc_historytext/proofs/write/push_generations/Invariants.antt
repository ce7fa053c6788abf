use Rattle.std.proofs.Common.{◌≡◌, ◌++◌, take}
use Rattle.std.specs.List.{flat_map}
use Rattle.rc_dbtext.specs.Form.{spells}
use Rattle.rc_historytext.specs.Text.{generation_lines, spell}
use Rattle.rc_historytext.proofs.write.push_generations.Given as goal

-- the lines so far
abbrev pub invariant-loop-generation : goal.invariant-loop-generation
invariant-loop-generation l =
    l.out.items
    ≡ l.fn.out.items
    ++ spells spell (flat_map generation_lines (take l.generation-index l.generations))
