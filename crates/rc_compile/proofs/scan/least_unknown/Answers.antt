use Rattle.std.proofs.Common.{◌≡◌, ◌∙◌, ◌<◌, ◌↔◌, ⊎_elim, ℕ, List, [], Option, None, map, length}
use Rattle.std.proofs.Common.{Contains, IfNone, IfSome, sym, subst, true, true≢false, arith}
use Rattle.std.proofs.lemmas.List.{length-map}
use Rattle.std.proofs.lemmas.Slice.Eq.{bytes_eq-Decides}
use Rattle.rc_model.proofs.Places.{contains_at}
use Rattle.rc_model.proofs.Members.{none_contained}
use Rattle.rc_db.proofs.Words.{mapped_at}
use Rattle.rc_source.specs.Meaning.{Meaning}
use Rattle.rc_source.specs.Said.{meaning_of}
use Rattle.rc_compile.specs.Along.{IsLeast}
use Rattle.rc_compile.specs.CompileFaults.{HasUnknown}
use Rattle.rc_compile.specs.Book.{ShowsUnknown}
use Rattle.rc_compile.proofs.Givens.{all_below, below_next}
use Rattle.rc_compile.proofs.Shown.{entries_unknown, same_least, unknown_same}
use Rattle.rc_compile.proofs.scan.least_unknown.Goals as goal
use Rattle.rc_compile.proofs.scan.least_unknown.Goals.{then-eq+in_ok-unknown+in_ok-name+in_default}
use Rattle.rc_compile.proofs.scan.least_unknown.Goals.{else-eq}

-- what is said where there is none
without : {X A : Type 0} (o : Option X) → o ≡ None → IfNone o A → A
without {X} {A} o is none = subst (λ (x : Option X). IfNone x A) is none

pub returns-in-Some : goal.returns-in-Some
returns-in-Some c =
    let ms = map meaning_of c.args.definitions.now in
    let m = meaning_of c.definition-item.result in
    let i = c.loop-definition.definition-index in
    let here = mapped_at meaning_of c.args.definitions.now i c.definition-item.result (omega arith)
    c.definition-item.is in
    let texts : c.text.result.now ≡ c.text-in-loop-definition.result.now =
    (bytes_eq-Decides c.text.result.now c.text-in-loop-definition.result.now).0
    (sym c.eq.ensures ∙ c.if-eq.true) in
    let named : m.name ≡ c.args.entry.now =
    sym c.text.ensures.bytes ∙ texts ∙ c.text-in-loop-definition.ensures.bytes in
    let found = c.deref.result.now in
    let Least : Option (List ℕ) → Type 0 = λ o. IfSome o (IsLeast (Contains found)) in
    let least = subst Least c.in-Some.is c.in_ok-name.ensures.some in
    let unknown : (n : List ℕ) → Contains c.in_ok-unknown.unknown.items n ↔ HasUnknown ms m.name n =
    λ n.
    let one = c.in_ok-unknown.ensures n in
    let other = unknown_same ms c.args.book.now c.requires.meanings c.requires.book m
    (contains_at ms i m here) n in
    (λ there. other.0 (one.0 there), λ has. one.1 (other.1 has)) in
    let listed : (n : List ℕ)
    → Contains found n ↔ HasUnknown ms m.name n = subst (λ (l : List (List ℕ)). (n : List ℕ)
    → Contains l n ↔ HasUnknown ms m.name n) (sym c.deref.ensures.value) unknown in
    let At : List ℕ → Type 0 = λ s. IsLeast (HasUnknown ms s) c.in-Some.name in
    subst At named (same_least (Contains found) (HasUnknown ms m.name) listed c.in-Some.name least)

pub loop-definition-preserved : goal.loop-definition-preserved
loop-definition-preserved c below =
    let ms = map meaning_of c.args.definitions.now in
    let m = meaning_of c.definition-item.result in
    let i = c.loop-definition.definition-index in
    let Flawed : Meaning → Type 0 =
    λ (x : Meaning). (x.name ≡ c.args.entry.now) × ShowsUnknown c.args.book.now x in
    let here = mapped_at meaning_of c.args.definitions.now i c.definition-item.result (omega arith)
    c.definition-item.is in
    ⊎_elim c.loop-definition.invariant
    (λ (named, shows). elim c.if-eq.branch [
      | then-eq+in_ok-unknown+in_ok-name+in_default w ↦
          let (name, mentions, not) = shows in
          let empty : w.deref.result.now ≡ [] =
          without w.in_ok-name.field-0 w.in_default.is w.in_ok-name.ensures.none in
          let gone : w.in_ok-unknown.unknown.items ≡ [] = sym w.deref.ensures.value ∙ empty in
          none_contained name
          (subst (λ (l : List (List ℕ)). Contains l name) gone
          ((w.in_ok-unknown.ensures name).1 (mentions, not)))
      | else-eq w ↦
          let same : c.text.result.now ≡ c.text-in-loop-definition.result.now =
          c.text.ensures.bytes ∙ named ∙ sym c.text-in-loop-definition.ensures.bytes in
          let yes : c.eq.result ≡ true = c.eq.ensures
          ∙ (bytes_eq-Decides c.text.result.now c.text-in-loop-definition.result.now).1 same in
          true≢false (sym yes ∙ w.if-eq.false)
    ])
    (below_next Flawed ms i m here below)

pub unreachable-requires : goal.unreachable-requires
unreachable-requires c =
    let ms = map meaning_of c.args.definitions.now in
    let Flawed : Meaning → Type 0 =
    λ (x : Meaning). (x.name ≡ c.args.entry.now) × ShowsUnknown c.args.book.now x in
    let (m, there, both) = entries_unknown ms c.args.book.now c.requires.meanings c.requires.book
    c.args.entry.now c.requires.flaw in
    let (k, x, low, at, holds) = all_below Flawed ms m there both in
    let least : k < length ms = low in
    c.loop-definition.invariant (
      k,
      x,
      omega (arith, length-map c.args.definitions.now meaning_of),
      at,
      holds,
    )
