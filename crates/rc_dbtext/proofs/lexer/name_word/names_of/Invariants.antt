use Rattle.std.proofs.Common.{◌≡◌, ◌++◌, All, length}
use Rattle.rc_model.specs.Names.{IsName}
use Rattle.rc_dbtext.proofs.lexer.name_word.names_of.Given as goal

-- the words so far are names
abbrev pub invariant-loop-word : goal.invariant-loop-word
invariant-loop-word l = record {
  so_far : l.fn.words ≡ l.names.items ++ l.left;
  each : All IsName l.names.items;
}

abbrev pub decreases-loop-word : goal.decreases-loop-word
decreases-loop-word l = length l.left
