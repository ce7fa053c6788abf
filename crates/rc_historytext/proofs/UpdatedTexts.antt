-- The generations of a text after the moves of an update, and their marks.
use Rattle.std.proofs.Common.{◌≡◌, ◌∙◌, ◌+◌, ◌-◌, ◌<◌, ℕ, zero, suc, Bool, List, [], ◌∷◌}
use Rattle.std.proofs.Common.{◌++◌, length, take, drop, Some, slice_get, arith, refl}
use Rattle.std.proofs.Common.{sym, ap, subst}
use Rattle.std.proofs.lemmas.List.{length-take}
use Rattle.std.proofs.lemmas.Option.{none-some, same_Some}
use Rattle.rc_model.specs.Line.{State, states}
use Rattle.rc_history.specs.History.{Generation, all_places}
use Rattle.rc_historytext.specs.Text.{GenerationText, HistoryText}
use Rattle.rc_historytext.specs.Moves.{as_oldest, begun, with_session_at}
use Rattle.rc_historytext.specs.Moves.{without_later, without_oldest}
use Rattle.rc_historytext.specs.Places.{all_marks, marks_within}
use Rattle.rc_historytext.proofs.Kept.{as_oldest_count}
use Rattle.rc_historytext.proofs.Moving.{eight_or_not}
use Rattle.rc_historytext.proofs.Presents.{at_end}
use Rattle.rc_historytext.proofs.TravelledMarks.{mark_at, mark_between}

-- a generation with this session and these marks stands at a place
pub record IsMarkedAt (gs : List GenerationText) (k : ℕ) (session : List ℕ) (first last : Bool)
    : Type 0 where
  pub text : GenerationText
  pub there : slice_get gs k ≡ Some text
  pub session_is : text.session ≡ session
  pub first_is : text.first_passed ≡ first
  pub last_is : text.last_passed ≡ last

-- another session, with other marks
pub put_there : (k : ℕ) (gs : List GenerationText) (g : GenerationText) (session : List ℕ)
    (first last : Bool) → slice_get gs k ≡ Some g
    → slice_get (with_session_at k gs session first last) k
    ≡ Some (record g { session = session; first_passed = first; last_passed = last })
put_there k [] g session first last there = absurd (none-some g there)
put_there zero (f ∷ gs) g session first last there =
    ap (λ (x : GenerationText). Some (record x {
      session = session;
      first_passed = first;
      last_passed = last;
    })) (same_Some f g there)
put_there (suc k) (f ∷ gs) g session first last there = put_there k gs g session first last there

-- and the others stay
pub put_before : (k j : ℕ) (gs : List GenerationText) (session : List ℕ) (first last : Bool)
    → j < k → slice_get (with_session_at k gs session first last) j ≡ slice_get gs j
put_before k j [] session first last low = refl
put_before zero j (f ∷ gs) session first last low = absurd (omega (arith, low))
put_before (suc k) zero (f ∷ gs) session first last low = refl
put_before (suc k) (suc j) (f ∷ gs) session first last low =
    put_before k j gs session first last (omega (arith, low))

-- those up to a place
pub taken_there : {A : Type 0} (n k : ℕ) (xs : List A) → k < n
    → slice_get (take n xs) k ≡ slice_get xs k
taken_there zero k xs low = absurd (omega (arith, low))
taken_there (suc n) k [] low = refl
taken_there (suc n) zero (x ∷ xs) low = refl
taken_there (suc n) (suc k) (x ∷ xs) low = taken_there n k xs (omega (arith, low))

-- those from a place on
pub dropped_there : (k : ℕ) (gs : List GenerationText) (session : List ℕ)
    (first last : Bool) → IsMarkedAt gs k session first last
    → IsMarkedAt (as_oldest (drop k gs)) 0 session first last
dropped_there zero [] session first last at = absurd (none-some at.text at.there)
dropped_there (suc k) [] session first last at = absurd (none-some at.text at.there)
dropped_there zero (g ∷ gs) session first last at =
    let same : g ≡ at.text = same_Some g at.text at.there in record {
      text = record g { renames = [] };
      there = refl;
      session_is = ap (λ (x : GenerationText). x.session) same ∙ at.session_is;
      first_is = ap (λ (x : GenerationText). x.first_passed) same ∙ at.first_is;
      last_is = ap (λ (x : GenerationText). x.last_passed) same ∙ at.last_is;
    }
dropped_there (suc k) (g ∷ gs) session first last at =
    dropped_there k gs session first last (record {
      text = at.text;
      there = at.there;
      session_is = at.session_is;
      first_is = at.first_is;
      last_is = at.last_is;
    })

-- without the oldest one
without_first : (k : ℕ) (gs : List GenerationText) (session : List ℕ) (first last : Bool) → 0 < k
    → IsMarkedAt gs k session first last
    → IsMarkedAt (as_oldest (drop 1 gs)) (k - 1) session first last
without_first zero gs session first last some at = absurd (omega (arith, some))
without_first (suc k) [] session first last some at = absurd (none-some at.text at.there)
without_first (suc zero) (g ∷ gs) session first last some at =
    dropped_there 1 (g ∷ gs) session first last at
without_first (suc (suc k)) (g ∷ []) session first last some at =
    absurd (none-some at.text at.there)
without_first (suc (suc k)) (g ∷ f ∷ gs) session first last some at =
    let place : suc (suc k) - 1 ≡ suc k = omega arith in
    subst (λ (j : ℕ). IsMarkedAt (as_oldest (drop 1 (g ∷ f ∷ gs))) j session first last)
    (sym place) (behind k at.there)
  where
    behind : (j : ℕ) → slice_get gs j ≡ Some at.text
        → IsMarkedAt (as_oldest (drop 1 (g ∷ f ∷ gs))) (suc j) session first last
    behind j there = record {
      text = at.text;
      there = there;
      session_is = at.session_is;
      first_is = at.first_is;
      last_is = at.last_is;
    }

in_front : (gs : List GenerationText) (g : GenerationText) (k : ℕ) (session : List ℕ)
    (first last : Bool) → IsMarkedAt gs k session first last
    → IsMarkedAt (gs ++ g ∷ []) k session first last
in_front gs g k session first last at = record {
  text = at.text;
  there = front gs k at.there;
  session_is = at.session_is;
  first_is = at.first_is;
  last_is = at.last_is;
}
  where
    front : (xs : List GenerationText) (n : ℕ) → slice_get xs n ≡ Some at.text
        → slice_get (xs ++ g ∷ []) n ≡ Some at.text
    front [] n is = absurd (none-some at.text is)
    front (x ∷ xs) zero is = is
    front (x ∷ xs) (suc n) is = front xs n is

-- the generation that begins, and the one in front of it
pub begun_places : (t : HistoryText) (g : GenerationText) (session : List ℕ) (first last : Bool)
    → t.present < length t.generations → IsMarkedAt t.generations t.present session first last
    → (slice_get (begun t g).generations (begun t g).present ≡ Some g)
    × IsMarkedAt (begun t g).generations ((begun t g).present - 1) session first last
begun_places t g session first last low at =
    eight_or_not (λ kept. (slice_get (kept.generations ++ g ∷ []) (kept.present + 1) ≡ Some g)
    × IsMarkedAt (kept.generations ++ g ∷ []) (kept.present + 1 - 1) session first last)
    (without_later t)
    (λ eight.
    let some : 0 < t.present = omega (arith, eight, end) in
    let place : t.present - 1 + 1 - 1 ≡ t.present - 1 = omega arith in (
      at_end (without_oldest (without_later t)).generations g
          ((without_oldest (without_later t)).present + 1)
          (omega (arith, eight, end, as_oldest_count (without_later t).generations)),
      subst (λ (k : ℕ). IsMarkedAt
          ((without_oldest (without_later t)).generations ++ g ∷ []) k session first last)
          (sym place)
          (in_front (without_oldest (without_later t)).generations g (t.present - 1) session first
          last
          (without_first t.present (without_later t).generations session first last some cut)),
    ))
    (λ other.
    let place : t.present + 1 - 1 ≡ t.present = omega arith in (
      at_end (without_later t).generations g (t.present + 1) end,
      subst (λ (k : ℕ). IsMarkedAt ((without_later t).generations ++ g ∷ []) k session first last)
          (sym place)
          (in_front (without_later t).generations g t.present session first last cut),
    ))
  where
    end : t.present + 1 ≡ length (without_later t).generations
    end = omega (arith, low, length-take (t.present + 1) t.generations)

    cut : IsMarkedAt (without_later t).generations t.present session first last
    cut = record {
      text = at.text;
      there =
          taken_there (t.present + 1) t.present t.generations (omega arith) ∙ at.there;
      session_is = at.session_is;
      first_is = at.first_is;
      last_is = at.last_is;
    }

-- the marks do not tell which of its states a generation stands on
same_marks : (gs : List GenerationText) (hs : List Generation) (k l : Generation)
    (ks : List Generation) → states k.line ≡ states l.line
    → all_marks gs (hs ++ k ∷ ks) ≡ all_marks gs (hs ++ l ∷ ks)
same_marks [] hs k l ks same = refl
same_marks (f ∷ gs) [] k l ks same =
    ap (λ (ss : List State). marks_within f.first_passed f.last_passed ss ++ all_marks gs ks) same
same_marks (f ∷ gs) (h ∷ hs) k l ks same =
    ap (λ (rest : List Bool). marks_within f.first_passed f.last_passed (states h.line) ++ rest)
    (same_marks gs hs k l ks same)

-- the mark of any state of a generation
pub mark_of : (gs : List GenerationText) (hs : List Generation) (k : Generation)
    (ks : List Generation) (before : List State) (s : State) (after : List State)
    (session : List ℕ) (first last : Bool) → states k.line ≡ before ++ s ∷ after
    → IsMarkedAt gs (length hs) session first last
    → slice_get (all_marks gs (hs ++ k ∷ ks)) (length (all_places hs) + length before)
    ≡ Some (mark_between first last (length before) (length after))
mark_of gs hs k ks before s after session first last same at =
    let l : Generation = record k {
      line = record { before = before; current = s; after = after; bound = k.line.bound };
    } in
    ap (λ (marks : List Bool). slice_get marks (length (all_places hs) + length before))
    (same_marks gs hs k l ks same)
    ∙ mark_at gs hs l ks at.text at.there
    ∙ (λ i. Some (mark_between (at.first_is i) (at.last_is i) (length before) (length after)))
