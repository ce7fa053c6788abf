use Rattle.std.proofs.Common.{◌∙◌, sym}
use Rattle.rc_script.proofs.EventWords.{number_is}
use Rattle.rc_script.proofs.numbers.moment_in.Goals as goal

pub returns-then-is_plain : goal.returns-then-is_plain
returns-then-is_plain c =
    c.ok.ensures.value ∙ number_is 64 c.args.word.now c.parse.result
    (sym c.is_plain.ensures ∙ c.if-is_plain.true) c.parse.ensures.value.0
