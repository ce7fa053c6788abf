use Rattle.std.proofs.Common.{List, ℕ, None, string_bytes, subst, sym, arith}
use Rattle.rc_model.specs.Line.{Removes, IsChangedAt}
use Rattle.rc_model.proofs.Mapped.{mapped_next}
use Rattle.rc_bundle.proofs.Changes.{removes_more, removed_below}
use Rattle.rc_bundle.proofs.GoneOver.{take_words}
use Rattle.rc_bundle.proofs.commands.cleared.Goals as goal

pub loop-name-preserved : goal.loop-name-preserved
loop-name-preserved c =
    subst (λ (words : List (List ℕ)). Removes c.args.table.now words c.clear.new.self)
    (sym (mapped_next string_bytes c.args.names.now c.loop-name.name-index c.name-item.result
    (omega arith) c.name-item.is))
    (removes_more _ _ _ _ _ c.loop-name.invariant
    (subst (λ (word : List ℕ). IsChangedAt c.loop-name.new word None c.clear.new.self)
    c.as_str.ensures.value c.clear.ensures.table))

pub returns-clause-table : goal.returns-clause-table
returns-clause-table c =
    subst (λ (words : List (List ℕ)). Removes c.args.table.now words c.loop-name.new)
    (take_words string_bytes c.args.names.now c.loop-name.name-index (omega arith))
    c.loop-name.invariant

pub returns-clause-bounds : goal.returns-clause-bounds
returns-clause-bounds c = removed_below _ _ _ c.len-len.ensures.table c.loop-name.invariant

pub returns-clause-is_table : goal.returns-clause-is_table
returns-clause-is_table c = c.len-len.ensures.table
