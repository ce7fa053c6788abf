use Rattle.std.proofs.Common.{◌<◌, length, Some, None, IfNone, Contains, sym, ◌∙◌}
use Rattle.std.proofs.lemmas.List.{length-map}
use Rattle.std.specs.String.{string_bytes}
use Rattle.std.specs.HashMap.{keys}
use Rattle.rc_names.proofs.Finding.{slice_get-found, not_shown}
use Rattle.rc_names.proofs.names.Names.find.Goals as goal

pub returns-in_err-place-clause-missing : goal.returns-in_err-place-clause-missing
returns-in_err-place-clause-missing c =
    let missing = not_shown string_bytes (keys c.self.inside.table) c.args.self.now c.args.text.now
    (c.self.invariant.0 ∙ c.self.view_is) (sym c.in_err-place.ensures.index) in
    elim c.from_residual.result as (λ r. IfNone r (Contains c.args.self.now c.args.text.now
    → ⊥)) [ None ↦ missing | Some _ ↦ tt ]

pub returns-clause-found : goal.returns-clause-found
returns-clause-found c =
    let within : c.in_ok-place.place < length (keys c.self.inside.table) =
    rw length-map c.in_ok-place.ensures.within in
    slice_get-found string_bytes (keys c.self.inside.table) c.args.self.now c.args.text.now
    (c.self.invariant.0 ∙ c.self.view_is) c.in_ok-place.place
    (sym c.in_ok-place.ensures.index) within
