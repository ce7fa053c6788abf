use Rattle.std.proofs.Common.{◌≡◌, ◌∙◌, List, [], ℕ, map, length, get_or, ap, arith}
use Rattle.std.proofs.lemmas.List.{length-replicate}
use Rattle.rc_model.specs.Names.{Has}
use Rattle.rc_model.specs.Graph.{Needs}
use Rattle.rc_source.specs.Said.{meaning_of}
use Rattle.rc_compile.specs.Mirror.{AreAt, HasListed}
use Rattle.rc_compile.specs.declared.members.rows.Listed.TheVariants.{Dependencies, Producer}
use Rattle.rc_compile.proofs.Drafts.{none_needed}
use Rattle.rc_compile.proofs.Looking.{gained_thrice}
use Rattle.rc_compile.proofs.NeedsByName.{needs_mirror}
use Rattle.rc_compile.proofs.needs.needs_of.Goals as goal

pub returns : goal.returns
returns c =
    let ms = map meaning_of c.args.definitions.now in
    let sets = c.args.sets.now in
    let services = c.args.services.now in
    let d0 = c.in_ok-draft.draft in
    let (through, by_bundle, second) = c.in_ok-need_in_bundles.ensures.pairs in
    let fresh : length d0 ≡ length c.args.services.now = ap length c.in_ok-draft.ensures
    ∙ length-replicate {A = List ℕ} c.len.result [] ∙ c.len.ensures.len in
    needs_mirror ms c.requires.meanings c.args.services.now c.args.bundles.now through
    c.need_listed-2.new.draft sets c.requires.services c.requires.bundles by_bundle
    (λ b low. c.requires.bounds b [] (omega (arith, c.requires.few))) c.requires.sets
    (c.need_listed-2.ensures.bound ∙ c.need_in_bundles.ensures.bound ∙ c.need_listed.ensures.bound
    ∙ fresh)
    (gained_thrice d0 c.need_listed.new.draft c.need_in_bundles.new.draft c.need_listed-2.new.draft
    (AreAt (HasListed Dependencies ms) services services)
    (λ s t. (b : ℕ) × Needs through s b × Has (get_or sets b []) t)
    (AreAt (HasListed Producer ms) services services)
    (none_needed d0 c.len.result c.in_ok-draft.ensures) c.in_ok-need_listed.ensures.pairs second
    c.in_ok-need_listed-2.ensures.pairs)
