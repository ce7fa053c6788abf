-- The mark of a place, and the marks beside another line of the same states.
use Rattle.std.proofs.Common.{◌≡◌, ◌∙◌, ◌+◌, ◌==◌, ◌&&◌, ◌||◌, ℕ, zero, suc, Bool, true, false}
use Rattle.std.proofs.Common.{List, [], ◌∷◌, ◌++◌, length, map, Some, slice_get, arith, refl}
use Rattle.std.proofs.Common.{sym, ap, subst, length-append}
use Rattle.std.proofs.lemmas.Bool.{ne_eqb}
use Rattle.std.proofs.lemmas.List.{length-map}
use Rattle.std.proofs.lemmas.Option.{none-some, same_Some}
use Rattle.rc_model.specs.Line.{State, states}
use Rattle.rc_history.specs.History.{Generation, History, all_places, cursor_of, generations}
use Rattle.rc_history.specs.History.{place_in, places_of}
use Rattle.rc_historytext.specs.Text.{GenerationText}
use Rattle.rc_historytext.specs.Moves.{with_session_at}
use Rattle.rc_historytext.specs.Places.{all_marks, later_marks, marks_within}

-- what a place with so many states before and after it in its generation is marked with
abbrev pub mark_between : (first last : Bool) → (before after : ℕ) → Bool
mark_between first last before after = (before == 0 && first) || (after == 0 && last)

some_are : (n : ℕ) → (suc n == 0) ≡ false
some_are n = ne_eqb (suc n) 0 (λ same. absurd (omega (arith, same)))

first_alone : (first last : Bool) (n : ℕ) → first ≡ ((true && first) || (suc n == 0 && last))
first_alone true last n = refl
first_alone false last n = ap (λ (b : Bool). b && last) (sym (some_are n))

later_at : (last : Bool) (xs : List State) (s : State) (ys : List State)
    → slice_get (later_marks last (xs ++ s ∷ ys)) (length xs) ≡ Some (length ys == 0 && last)
later_at last [] s [] = refl
later_at last [] s (y ∷ ys) =
    ap (λ (b : Bool). Some (b && last)) (sym (some_are (length ys)))
later_at last (x ∷ []) s ys = later_at last [] s ys
later_at last (x ∷ y ∷ xs) s ys = later_at last (y ∷ xs) s ys

within_at : (first last : Bool) (xs : List State) (s : State) (ys : List State)
    → slice_get (marks_within first last (xs ++ s ∷ ys)) (length xs)
    ≡ Some (mark_between first last (length xs) (length ys))
within_at first last [] s [] = refl
within_at first last [] s (y ∷ ys) = ap Some (first_alone first last (length ys))
within_at first last (x ∷ []) s ys = later_at last [] s ys
within_at first last (x ∷ y ∷ xs) s ys =
    later_at last (y ∷ xs) s ys
    ∙ ap (λ (b : Bool). Some ((b && first) || (length ys == 0 && last)))
    (sym (some_are (suc (length xs))))

later_count : (last : Bool) (ss : List State) → length (later_marks last ss) ≡ length ss
later_count last [] = refl
later_count last (s ∷ []) = refl
later_count last (s ∷ next ∷ rest) = ap suc (later_count last (next ∷ rest))

within_count : (first last : Bool) (ss : List State)
    → length (marks_within first last ss) ≡ length ss
within_count first last [] = refl
within_count first last (s ∷ []) = refl
within_count first last (s ∷ next ∷ rest) = ap suc (later_count last (next ∷ rest))

get_front : (xs ys : List Bool) (n : ℕ) (b : Bool) → slice_get xs n ≡ Some b
    → slice_get (xs ++ ys) n ≡ Some b
get_front [] ys n b is = absurd (none-some b is)
get_front (x ∷ xs) ys zero b is = is
get_front (x ∷ xs) ys (suc n) b is = get_front xs ys n b is

get_back : (xs ys : List Bool) (n k : ℕ) (b : Bool) → n ≡ length xs + k
    → slice_get ys k ≡ Some b → slice_get (xs ++ ys) n ≡ Some b
get_back [] ys n k b at is =
    let same : n ≡ k = omega (arith, at) in
    subst (λ (m : ℕ). slice_get ys m ≡ Some b) (sym same) is
get_back (x ∷ xs) ys zero k b at is = absurd (omega (arith, at))
get_back (x ∷ xs) ys (suc n) k b at is = get_back xs ys n k b (omega (arith, at)) is

-- the mark of the current state of a generation
pub mark_at : (gs : List GenerationText) (hs : List Generation) (k : Generation)
    (ks : List Generation) (g : GenerationText) → slice_get gs (length hs) ≡ Some g
    → slice_get (all_marks gs (hs ++ k ∷ ks)) (length (all_places hs) + length k.line.before)
    ≡ Some (mark_between g.first_passed g.last_passed (length k.line.before) (length k.line.after))
mark_at [] hs k ks g there = absurd (none-some g there)
mark_at (f ∷ gs) [] k ks g there =
    let same : f ≡ g = same_Some f g there in
    let first : 0 + length k.line.before ≡ length k.line.before = omega arith in
    let Is : GenerationText → ℕ → Type 0 = λ x n.
    slice_get (marks_within x.first_passed x.last_passed (states k.line) ++ all_marks gs ks) n
    ≡ Some (mark_between g.first_passed g.last_passed (length k.line.before)
    (length k.line.after)) in
    subst (λ (x : GenerationText). Is x (0 + length k.line.before)) (sym same)
    (subst (λ (n : ℕ). Is g n) (sym first)
    (get_front (marks_within g.first_passed g.last_passed (states k.line)) (all_marks gs ks)
    (length k.line.before)
    (mark_between g.first_passed g.last_passed (length k.line.before) (length k.line.after))
    (within_at g.first_passed g.last_passed k.line.before k.line.current k.line.after)))
mark_at (f ∷ gs) (h ∷ hs) k ks g there =
    get_back (marks_within f.first_passed f.last_passed (states h.line))
    (all_marks gs (hs ++ k ∷ ks))
    (length (all_places (h ∷ hs)) + length k.line.before)
    (length (all_places hs) + length k.line.before)
    (mark_between g.first_passed g.last_passed (length k.line.before) (length k.line.after))
    (omega (
      arith,
      within_count f.first_passed f.last_passed (states h.line),
      length-map (states h.line) (place_in h.base),
      length-append (places_of h) (all_places hs),
    ))
    (mark_at gs hs k ks g there)

-- the mark at the cursor of a history
pub mark_now : (gs : List GenerationText) (h : History) (g : GenerationText)
    → slice_get gs (length h.earlier) ≡ Some g
    → slice_get (all_marks gs (generations h)) (cursor_of h)
    ≡ Some (mark_between g.first_passed g.last_passed (length h.present.line.before)
    (length h.present.line.after))
mark_now gs h g there =
    let at : cursor_of h ≡ length (all_places h.earlier) + length h.present.line.before =
    length-append (all_places h.earlier) (map (place_in h.present.base) h.present.line.before)
    ∙ ap (λ (n : ℕ). length (all_places h.earlier) + n)
    (length-map h.present.line.before (place_in h.present.base)) in
    subst (λ (n : ℕ). slice_get (all_marks gs (generations h)) n
    ≡ Some (mark_between g.first_passed g.last_passed (length h.present.line.before)
    (length h.present.line.after))) (sym at)
    (mark_at gs h.earlier h.present h.later g there)

-- another line of the same states, and the same ends
pub marks_kept : (gs : List GenerationText) (hs : List Generation) (old new : Generation)
    (ks : List Generation) (g : GenerationText) (session : List ℕ)
    → slice_get gs (length hs) ≡ Some g → states new.line ≡ states old.line
    → all_marks (with_session_at (length hs) gs session g.first_passed g.last_passed)
    (hs ++ new ∷ ks)
    ≡ all_marks gs (hs ++ old ∷ ks)
marks_kept [] hs old new ks g session there same = absurd (none-some g there)
marks_kept (f ∷ gs) [] old new ks g session there same =
    let own : g ≡ f = sym (same_Some f g there) in
    λ i. marks_within (own i).first_passed (own i).last_passed (same i) ++ all_marks gs ks
marks_kept (f ∷ gs) (h ∷ hs) old new ks g session there same =
    ap (λ (rest : List Bool). marks_within f.first_passed f.last_passed (states h.line) ++ rest)
    (marks_kept gs hs old new ks g session there same)
