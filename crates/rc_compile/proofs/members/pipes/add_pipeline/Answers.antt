use Rattle.std.proofs.Common.{◌≡◌, ◌∙◌, ◌↔◌, inl, inr, ℕ, List, Some, Contains, slice_get, ap, sym}
use Rattle.std.proofs.Common.{subst, arith}
use Rattle.std.proofs.lemmas.Option.{slice_get_within}
use Rattle.rc_model.specs.Graph.{UpFrom}
use Rattle.rc_model.proofs.Members.{contains_at}
use Rattle.rc_compile.specs.Joining.{AllWithin}
use Rattle.rc_compile.specs.Rows.{rows}
use Rattle.rc_compile.specs.Sets.{IsPipedBy}
use Rattle.rc_source.specs.Said.{meaning_of}
use Rattle.rc_compile.proofs.SetLists.{from_place, gain_none, pipe_gain}
use Rattle.rc_compile.proofs.members.pipes.add_pipeline.Goals as goal

pub returns-in_default-clause-sets : goal.returns-in_default-clause-sets
returns-in_default-clause-sets c =
    let Piped : ℕ → ℕ → Type 0 = λ b s. (n : List ℕ) × (slice_get c.args.bundles.now b ≡ Some n)
    × IsPipedBy (meaning_of c.args.definition.now) c.args.services.now (rows c.args.readers.now) n
    s in
    gain_none Piped c.args.sets.now (λ b s (n, at, piped). c.in_default.ensures.none n piped.0)

pub returns-in_default-find-clause-sets : goal.returns-in_default-find-clause-sets
returns-in_default-find-clause-sets c =
    let services = c.args.services.now in
    let own = c.args.definition.now.name in
    let none : (i : ℕ) → slice_get services i ≡ Some own
    → ⊥ = λ i at. c.in_default-find.ensures.missing
    (subst (Contains services) (sym c.text.ensures.bytes) (contains_at services i own at)) in
    let Piped : ℕ → ℕ → Type 0 = λ b s. (n : List ℕ) × (slice_get c.args.bundles.now b ≡ Some n)
    × IsPipedBy (meaning_of c.args.definition.now) services (rows c.args.readers.now) n s in
    gain_none Piped c.args.sets.now (λ b s (n, at, piped). elim piped.1 [
      | inl here ↦ none s here
      | inr path ↦ none path.0 path.1
    ])

pub reached-requires-clause-few : goal.reached-requires-clause-few
reached-requires-clause-few c = omega (arith, c.requires.readers, c.len-count.ensures.names.few)

pub reached-requires-clause-known : goal.reached-requires-clause-known
reached-requires-clause-known c = c.requires.known

pub reached-requires-clause-start : goal.reached-requires-clause-start
reached-requires-clause-start c =
    omega (
      arith,
      c.requires.readers,
      slice_get_within c.args.services.now c.in-Some-find.id c.text.result.now
          c.in-Some-find.ensures.found,
    )

pub add_set-requires-clause-few : goal.add_set-requires-clause-few
add_set-requires-clause-few c = c.requires.few

pub add_set-requires-clause-bounds : goal.add_set-requires-clause-bounds
add_set-requires-clause-bounds c =
    subst (λ (n : ℕ). AllWithin n c.args.sets.now)
    (sym (c.in_ok-set.ensures.bound ∙ c.requires.readers)) c.requires.bounds

pub returns-clause-bounds : goal.returns-clause-bounds
returns-clause-bounds c =
    subst (λ (n : ℕ). AllWithin n c.add_set.new.sets)
    (c.in_ok-set.ensures.bound ∙ c.requires.readers) c.add_set.ensures.bounds

pub returns-clause-sets : goal.returns-clause-sets
returns-clause-sets c =
    let readers = rows c.args.readers.now in
    let own = c.args.definition.now.name in
    let at : slice_get c.args.services.now c.in-Some-find.id ≡ Some own =
    c.in-Some-find.ensures.found ∙ ap (λ (x : List ℕ). Some x) c.text.ensures.bytes in
    let same : (s : ℕ) → UpFrom readers (λ i. i ≡ c.in-Some-find.id) s
    ↔ UpFrom readers (λ i. slice_get c.args.services.now i ≡ Some own) s =
    λ s. from_place c.args.services.now readers c.in-Some-find.id s own
    c.len-count.ensures.names.order at in
    pipe_gain (meaning_of c.args.definition.now) c.args.services.now readers c.args.bundles.now
    c.in-Some.name.now c.in_ok-set.set c.args.sets.now c.add_set.new.sets c.in-Some.ensures.some
    (λ s. (
      λ has. (same s).0 ((c.in_ok-set.ensures.members s).0 has),
      λ from. (c.in_ok-set.ensures.members s).1 ((same s).1 from),
    )) c.add_set.ensures.sets
