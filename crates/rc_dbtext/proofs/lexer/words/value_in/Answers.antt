use Rattle.std.proofs.Common.{arith}
use Rattle.rc_dbtext.proofs.Numbers.{digits_value-more, digits_value-above}
use Rattle.rc_dbtext.proofs.lexer.words.value_in.Goals as goal

pub returns-then-above : goal.returns-then-above
returns-then-above c =
    digits_value-above c.args.digits.now _ _ c.args.most
    (digits_value-more c.args.digits.now c.loop-digit.digit-index c.loop-digit.value c.from.result
    c.requires (omega arith) c.loop-digit.invariant.so_far c.from.ensures)
    (omega arith)

pub loop-digit-preserved : goal.loop-digit-preserved
loop-digit-preserved c = record {
  few = omega arith;
  so_far =
      digits_value-more c.args.digits.now c.loop-digit.digit-index c.loop-digit.value c.from.result
      c.requires (omega arith) c.loop-digit.invariant.so_far c.from.ensures;
}
