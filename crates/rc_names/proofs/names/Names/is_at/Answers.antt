use Rattle.std.proofs.Common.{◌≡◌, ◌∙◌, ℕ, List, Some, slice_get, sym, ap, subst}
use Rattle.std.proofs.lemmas.Option.{slice_get-map}
use Rattle.std.proofs.lemmas.Slice.Eq.{bytes_eq-Decides}
use Rattle.std.specs.Option.{option_map}
use Rattle.rc_names.proofs.names.Names.is_at.Goals as goal

-- the entry at the place shows this name
pub returns-in-Some : goal.returns-in-Some
returns-in-Some c = λ same.
    let shown = subst (λ (ts : List (List ℕ)). slice_get ts c.args.place
    ≡ option_map (λ e. e.1) (slice_get c.self.inside.table.entries c.args.place)) c.self.view_is
    (slice_get-map (λ e. e.1) c.self.inside.table.entries c.args.place) in
    let equal : c.text.result.now ≡ c.args.text.now =
    (bytes_eq-Decides c.text.result.now c.args.text.now).0 (sym c.eq.ensures ∙ same) in
    shown ∙ ap (option_map (λ e. e.1)) (sym c.in-Some.ensures.entry)
    ∙ ap Some (sym c.text.ensures.bytes ∙ equal)
