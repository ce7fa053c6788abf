use Rattle.std.proofs.Common.{ap, map, string_bytes, ◌∙◌}
use Rattle.std.proofs.lemmas.Result.{IfOk-weaker}
use Rattle.rc_args.proofs.WordsLemmas.{words_found}
use Rattle.rc_args.proofs.texts.words_in.Goals as goal

pub returns-in-Some : goal.returns-in-Some
returns-in-Some c =
    IfOk-weaker c.strings_of.result _ _
    (λ words h. h ∙ words_found c.args.matches.now _ c.in-Some.ensures)
    c.strings_of.ensures

pub returns-in-None : goal.returns-in-None
returns-in-None c =
    ap (map string_bytes) c.new.ensures.items ∙ words_found c.args.matches.now _ c.in-None.ensures
