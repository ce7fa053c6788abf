use Rattle.std.proofs.Common.{◌∙◌, sym}
use Rattle.rc_dbtext.proofs.Naming.{at_named}
use Rattle.rc_dbtext.proofs.lines.word_at.Goals as goal

pub returns : goal.returns
returns c =
    c.as_bytes.ensures.value ∙ c.text.ensures.bytes
    ∙ sym (at_named c.args.names.now c.args.id c.name_of.result.now c.name_of.ensures)
