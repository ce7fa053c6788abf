use Rattle.std.proofs.Common.{◌∙◌, map, string_bytes, sym}
use Rattle.std.specs.Cmp.Derive.Mapped.{pointwise-map}
use Rattle.std.specs.Str.{bytes_eq}
use Rattle.std.proofs.lemmas.Slice.Eq.{bytes_eq-Decides, slice_eq-Decides}
use Rattle.rc_select.proofs.request.are_same.Goals as goal

pub returns : goal.returns
returns c =
    let names = c.args.names.now in
    let others = c.args.others.now in
    slice_eq-Decides bytes_eq-Decides (map string_bytes names) (map string_bytes others) c.eq.result
    (c.eq.ensures ∙ sym (pointwise-map string_bytes bytes_eq names others))
