use Rattle.std.proofs.Common.{◌∙◌, string_bytes, sym}
use Rattle.rc_source.proofs.TextSets.{Contains-from_any, any-from_Contains}
use Rattle.rc_source.proofs.sets.has.Goals as goal

pub returns : goal.returns
returns c = (
  λ yes. Contains-from_any string_bytes c.args.set.now.keys c.args.text.now
      (sym c.contains.ensures ∙ yes),
  λ there. c.contains.ensures ∙ any-from_Contains string_bytes c.args.set.now.keys
      c.args.text.now there,
)
