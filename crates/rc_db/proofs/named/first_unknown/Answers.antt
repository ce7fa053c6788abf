use Rattle.std.proofs.Common.{◌≡◌, ◌∙◌, ◌+◌, ◌<◌, List, ℕ, map, slice_get, Some, refl, sym, subst}
use Rattle.std.proofs.Common.{true≢false, arith}
use Rattle.std.proofs.lemmas.List.{length-map}
use Rattle.std.proofs.lemmas.Option.{slice_get_within}
use Rattle.std.specs.String.{string_bytes}
use borrow.Author.Count.{below_more}
use Rattle.rc_model.specs.Database.{IsKnown}
use Rattle.rc_model.proofs.Places.{all_places}
use Rattle.rc_db.proofs.Words.{first_of, mapped_at}
use Rattle.rc_db.proofs.named.first_unknown.Goals as goal

pub returns-then-not-is_known-clause-some : goal.returns-then-not-is_known-clause-some
returns-then-not-is_known-clause-some c =
    let words = map string_bytes c.args.words.now in
    let here = mapped_at string_bytes c.args.words.now c.loop-place.place c.index-words-place.result
    (omega arith) c.index-words-place.is in
    let Fails : List ℕ → Type 0 = λ w. IsKnown c.args.names.now c.args.table.now w → ⊥ in
    first_of (IsKnown c.args.names.now c.args.table.now) words c.loop-place.place
    (string_bytes c.index-words-place.result) here
    (subst Fails c.as_str.ensures.value
    (λ known. true≢false (sym (c.is_known.ensures.1 known) ∙ c.if-not-is_known.true)))
    c.loop-place.invariant

pub loop-place-preserved : goal.loop-place-preserved
loop-place-preserved c =
    let words = map string_bytes c.args.words.now in
    let here = mapped_at string_bytes c.args.words.now c.loop-place.place c.index-words-place.result
    (omega arith) c.index-words-place.is in
    let Known : List ℕ → Type 0 = λ w. IsKnown c.args.names.now c.args.table.now w in
    let Passed : ℕ → Type 0 = λ k. (word : List ℕ) → slice_get words k ≡ Some word
    → IsKnown c.args.names.now c.args.table.now word in
    let more : (k : ℕ) → k < c.loop-place.place + 1 → Passed k =
    below_more Passed c.loop-place.place (λ k low word at. c.loop-place.invariant k word low at)
    (λ word at. let same : string_bytes c.index-words-place.result ≡ word = cc in
    subst Known (c.as_str.ensures.value ∙ same) (c.if-not-is_known.ensures.0 refl)) in
    λ k word low at. more k low word at

pub returns-clause-none : goal.returns-clause-none
returns-clause-none c =
    let words = map string_bytes c.args.words.now in
    all_places (IsKnown c.args.names.now c.args.table.now) words
    (λ k word at. c.loop-place.invariant k word
    (omega (arith, slice_get_within words k word at, length-map c.args.words.now string_bytes)) at)
