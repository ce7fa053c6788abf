use Rattle.std.proofs.Common.{◌∙◌, Contains, ap, refl, sym, subst, true≢false, arith}
use Rattle.std.proofs.lemmas.Option.{slice_get-map, slice_get_within}
use Rattle.std.specs.Option.{option_map}
use Rattle.rc_model.specs.Database.{names_of}
use Rattle.rc_model.proofs.Places.{contains_at, mapped_place}
use Rattle.rc_db.proofs.fit.are_apart.Goals as goal

pub returns-then-has_name : goal.returns-then-has_name
returns-then-has_name c =
    let named = slice_get-map (λ bundle. bundle.0) c.args.table.now c.loop-place.place
    ∙ ap (option_map (λ bundle. bundle.0)) c.at.ensures in (
      λ no. absurd (true≢false (sym no)),
      λ apart. absurd
          (apart c.at.result.0.now
          (subst (Contains c.args.names.now) c.text.ensures.bytes (c.if-has_name.ensures.0 refl))
          (contains_at (names_of c.args.table.now) c.loop-place.place c.at.result.0.now named)),
    )

pub returns : goal.returns
returns c = (
  λ _ name in_names in_table.
      let at = mapped_place (λ bundle. bundle.0) c.args.table.now name in_table in
      c.loop-place.invariant at.0 at.1
      (omega (arith, slice_get_within c.args.table.now at.0 at.1 at.2)) at.2
      (subst (Contains c.args.names.now) (sym at.3) in_names),
  λ _. refl,
)
