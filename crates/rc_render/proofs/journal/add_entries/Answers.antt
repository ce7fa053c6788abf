use Rattle.std.proofs.Common.{◌≡◌, ◌∙◌, ◌+◌, ◌<◌, ◌≤◌, ◌∷◌, ◌++◌, ℕ, suc, List, [], Some, All}
use Rattle.std.proofs.Common.{slice_get, length, take, ap, sym, subst, arith, add-one, append_assoc}
use Rattle.std.proofs.lemmas.List.{length-take-le, take_all}
use Rattle.std.proofs.lemmas.Option.{slice_get_within, get_or_from_slice_get}
use Rattle.rc_model.proofs.Places.{take_next}
use Rattle.rc_model.specs.Database.{Database}
use Rattle.rc_model.specs.Line.{State, Entry, IsEntry, states}
use Rattle.rc_model.specs.Session.{IsStateOf}
use Rattle.rc_model.proofs.Lists.{grown}
use Rattle.rc_render.specs.JournalText.{AreEntryLines, IsEntryLine, IsEntryBelow}
use Rattle.rc_render.proofs.JournalLemmas.{one_more_entry}
use Rattle.rc_render.proofs.journal.add_entries.Goals as goal

-- what stands at a place is such
at_place : (P : State → Type 0) (xs : List State) (i : ℕ) (x : State) → All P xs
    → slice_get xs i ≡ Some x → P x
at_place P xs i x all at =
    subst P (get_or_from_slice_get xs i x x at) (all i x (slice_get_within xs i x at))

-- two more states
two_more : (xs : List State) (i : ℕ) (a b : State) → slice_get xs i ≡ Some a
    → slice_get xs (suc i) ≡ Some b → take (i + 1 + 1) xs ≡ take i xs ++ a ∷ b ∷ []
two_more xs i a b at_a at_b =
    let there : slice_get xs (i + 1) ≡ Some b = rw add-one at_b in
    take_next xs (i + 1) b there
    ∙ (ap (λ (ys : List State). ys ++ b ∷ []) (take_next xs i a at_a)
    ∙ append_assoc (take i xs) (a ∷ []) (b ∷ []))

-- the entry between two states of a line, with their bounds
below : (d : Database) (xs : List State) (names : List (List ℕ)) (i : ℕ) (a b : State)
    (entry : Entry) → All (IsStateOf d) xs → names ≡ d.names → slice_get xs i ≡ Some a
    → slice_get xs (suc i) ≡ Some b → IsEntry a b entry
    → IsEntryBelow (length names) a b entry
below d xs names i a b entry all same at_a at_b is = record {
  before = (at_place (IsStateOf d) xs i a all at_a).bound ∙ ap length (sym same);
  after = (at_place (IsStateOf d) xs (suc i) b all at_b).bound ∙ ap length (sym same);
  exact = is;
}

pub entry_line-requires : goal.entry_line-requires
entry_line-requires c =
    let (a, b, at_a, at_b, is) = c.entry.ensures in (
      a,
      b,
      below c.args.db.now (states c.args.line.now.line) c.names.result.now c.loop-place.place a
          b c.entry.result.now c.requires.line.each c.names.ensures.names at_a at_b is,
    )

pub loop-place-preserved : goal.loop-place-preserved
loop-place-preserved c =
    let all = states c.args.line.now.line in
    let names = c.args.db.now.names in
    let i = c.loop-place.place in
    let f = c.args.first in
    let (a, b, at_a, at_b, is) = c.entry.ensures in
    let (entries, lines, whole) = c.loop-place.invariant in
    let text = c.in_ok-entry.entry.items in
    let here : IsEntryLine c.names.result.now (c.args.first + c.loop-place.place)
    c.entry.ensures.0 c.entry.ensures.1 c.in_ok-entry.entry.items =
    c.in_ok-entry.ensures a b
    (below c.args.db.now all c.names.result.now i a b c.entry.result.now c.requires.line.each
    c.names.ensures.names at_a at_b is) in
    let within : c.loop-place.place < length (states c.args.line.now.line) =
    slice_get_within all i a at_a in
    let low : c.loop-place.place ≤ length (states c.args.line.now.line) = omega arith in
    let place : c.args.first + c.loop-place.place
    ≡ c.args.first + length (take c.loop-place.place (states c.args.line.now.line)) =
    omega (arith, length-take-le i all low) in
    let named =
    subst (λ (ns : List (List ℕ)). IsEntryLine ns (f + i) a b text) c.names.ensures.names here in (
      entries ++ text,
      subst (λ (xs : List State). AreEntryLines names f xs (entries ++ text))
          (sym (two_more all i a b at_a at_b))
          (one_more_entry names f (take i all) a b entries text
          (subst (λ (xs : List State). AreEntryLines names f xs entries)
          (take_next all i a at_a) lines)
          (subst (λ (n : ℕ). IsEntryLine names n a b text) place named)),
      grown c.extend_from_slice.new.self.items c.loop-place.text.items c.args.text.now.items
          entries (entries ++ text) c.deref.result.now
          c.in_ok-extend_from_slice.ensures.items whole
          (ap (λ (t : List ℕ). entries ++ t) (sym c.deref.ensures.value)),
    )

pub returns : goal.returns
returns c =
    let (entries, lines, whole) = c.loop-place.invariant in
    let long : length (states c.args.line.now.line) ≤ c.loop-place.place + 1 =
    omega (arith, c.states-place-end.ensures.count, c.loop-place-test.false) in (
      entries,
      subst (λ (xs : List State). AreEntryLines c.args.db.now.names c.args.first xs entries)
          (take_all (c.loop-place.place + 1) (states c.args.line.now.line) long) lines,
      whole,
    )
