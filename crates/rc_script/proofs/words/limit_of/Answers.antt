use Rattle.std.proofs.Common.{◌∙◌, sym}
use Rattle.rc_script.proofs.Digits.{limit_is}
use Rattle.rc_script.proofs.words.limit_of.Goals as goal

pub returns-then-word-le-MAX_DIGITS : goal.returns-then-word-le-MAX_DIGITS
returns-then-word-le-MAX_DIGITS c =
    c.ok.ensures.value ∙ limit_is c.args.word.now c.parse.result
    (sym c.is_digits.ensures ∙ c.if-is_digits.true) c.if-word-le-MAX_DIGITS.true
    c.parse.ensures.value.0
