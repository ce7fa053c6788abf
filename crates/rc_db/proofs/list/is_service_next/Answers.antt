use Rattle.std.proofs.Common.{◌≡◌, ◌∙◌, ◌<◌, List, ℕ, [], length, get_or, Contains, sym, ap, subst}
use Rattle.std.proofs.Common.{arith}
use Rattle.std.proofs.lemmas.List.{length-map}
use Rattle.std.proofs.lemmas.Option.{slice_get-map, slice_get-get_or, slice_get_within}
use Rattle.std.proofs.lemmas.Bool.{false_from_ne_true}
use Rattle.std.proofs.lemmas.Slice.Eq.{bytes_eq-Decides}
use Rattle.std.specs.Str.{bytes_eq}
use Rattle.std.specs.Option.{option_map}
use Rattle.rc_model.specs.Names.{IsBefore}
use Rattle.rc_model.specs.Database.{names_of}
use Rattle.rc_db.specs.Merging.{IsNext}
use Rattle.rc_db.proofs.Fits.{on_true}
use Rattle.rc_db.proofs.Listing.{less_from, on_false}
use Rattle.rc_model.proofs.Places.{contains_at}
use Rattle.rc_model.proofs.Texts.{before_from}
use Rattle.rc_db.proofs.list.is_service_next.Goals as goal

pub returns-then-id-len-clause-bundle : goal.returns-then-id-len-clause-bundle
returns-then-id-len-clause-bundle c =
    let bundles = names_of c.args.table.now in
    let within : c.args.place < length bundles =
    omega (arith, length-map c.args.table.now (λ bundle. bundle.0)) in (
      get_or bundles c.args.place [],
      slice_get-get_or bundles c.args.place [] within,
      λ other there. absurd
          (omega (arith, slice_get_within c.args.names.now c.args.id other there)),
    )

pub returns-then-place-len-clause-service : goal.returns-then-place-len-clause-service
returns-then-place-len-clause-service c =
    let names = c.args.names.now in
    let within : c.args.id < length names = omega arith in (
      get_or names c.args.id [],
      slice_get-get_or names c.args.id [] within,
      λ other there. absurd
          (omega (
            arith,
            slice_get_within (names_of c.args.table.now) c.args.place other there,
            length-map c.args.table.now (λ bundle. bundle.0),
          )),
    )

pub returns-clause-service : goal.returns-clause-service
returns-clause-service c =
    let named = slice_get-map (λ bundle. bundle.0) c.args.table.now c.args.place
    ∙ ap (option_map (λ bundle. bundle.0)) c.at.ensures in
    on_true c.lt.result (IsNext c.args.names.now c.args.id (names_of c.args.table.now) c.args.place)
    (λ less.
    let First : List ℕ → Type 0 = λ a. IsBefore a c.text-2.result.now in
    let before = subst First c.text.ensures.bytes
    (less_from c.text.result.now c.text-2.result.now (sym c.lt.ensures ∙ less)) in (
      c.name_of.result.now,
      c.name_of.ensures,
      λ other there.
          let same : c.at.result.0.now ≡ other = cc (named, there) in
          subst (IsBefore c.name_of.result.now) (c.text-2.ensures.bytes ∙ same) before,
    ))

pub returns-clause-bundle : goal.returns-clause-bundle
returns-clause-bundle c =
    let named = slice_get-map (λ bundle. bundle.0) c.args.table.now c.args.place
    ∙ ap (option_map (λ bundle. bundle.0)) c.at.ensures in
    on_false c.lt.result
    (IsNext (names_of c.args.table.now) c.args.place c.args.names.now c.args.id) (λ not_less.
    let differ = false_from_ne_true (bytes_eq c.text-2.result.now c.text.result.now) (λ equal.
    let same : c.at.result.0.now ≡ c.name_of.result.now =
    sym c.text-2.ensures.bytes ∙ (bytes_eq-Decides c.text-2.result.now c.text.result.now).0 equal
    ∙ c.text.ensures.bytes in
    c.requires.apart c.name_of.result.now
    (contains_at c.args.names.now c.args.id c.name_of.result.now c.name_of.ensures)
    (subst (Contains (names_of c.args.table.now)) same
    (contains_at (names_of c.args.table.now) c.args.place c.at.result.0.now named))) in
    let First : List ℕ → Type 0 = λ a. IsBefore a c.text.result.now in
    let before = subst First c.text-2.ensures.bytes
    (before_from c.text-2.result.now c.text.result.now (sym c.lt.ensures ∙ not_less) differ) in (
      c.at.result.0.now,
      named,
      λ other there.
          let same : c.name_of.result.now ≡ other = cc (c.name_of.ensures, there) in
          subst (IsBefore c.at.result.0.now) (c.text.ensures.bytes ∙ same) before,
    ))
