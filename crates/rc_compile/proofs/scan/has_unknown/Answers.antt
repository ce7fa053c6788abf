use Rattle.std.proofs.Common.{◌≡◌, ◌∙◌, ◌<◌, ℕ, List, [], ◌∷◌, eqb, length, map, vec_len, Contains}
use Rattle.std.proofs.Common.{refl, sym, arith}
use Rattle.std.proofs.lemmas.Bool.Decides.{Decides-eqb}
use Rattle.rc_source.proofs.Members.{Contains-here}
use Rattle.rc_source.specs.Said.{meaning_of}
use Rattle.rc_compile.proofs.Passing.{not_passed, passed_not}
use Rattle.rc_compile.proofs.Shown.{shown_unknown}
use Rattle.rc_compile.proofs.scan.has_unknown.Goals as goal

-- a list that is not empty has an element
some_of : (names : List (List ℕ)) → (length names ≡ 0 → ⊥) → (name : List ℕ) × Contains names name
some_of [] full = absurd (full refl)
some_of (name ∷ rest) full = (name, Contains-here name rest name refl)

pub returns : goal.returns
returns c =
    let unknown = c.in_ok-unknown.unknown.items in
    let count = vec_len c.in_ok-unknown.unknown in
    let long : count ≡ length unknown = omega (arith, c.in_ok-unknown.unknown.ok.0) in
    let decides = Decides-eqb count 0 in
    let same = shown_unknown (map meaning_of c.args.definitions.now) c.args.book.now
    c.requires.meanings c.requires.book (meaning_of c.args.definition.now) c.requires.within in
    let test : c.is_empty.result ≡ eqb count 0 = c.is_empty.ensures in (
      λ passed.
          let one = some_of unknown (λ none. let zero_count : count ≡ 0 = omega arith in
          passed_not c.is_empty.result passed (test ∙ decides.1 zero_count)) in
          let shows = (c.in_ok-unknown.ensures one.0).0 one.1 in
          same.0 (one.0, shows.0, shows.1),
      λ has. let (name, mentions, fails) = same.1 has in not_passed c.is_empty.result (λ empty.
          let there = (c.in_ok-unknown.ensures name).1 (mentions, fails) in
          let low : there.0 < length unknown = there.1 in
          let none : count ≡ 0 = decides.0 (sym test ∙ empty) in
          omega arith),
    )
