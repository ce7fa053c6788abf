-- The states of generations are counted, one generation after the other.
use Rattle.std.proofs.Common.{◌≡◌, ◌∙◌, ◌<◌, ◌+◌, ℕ, zero, suc, Bool, false, List, [], ◌∷◌}
use Rattle.std.proofs.Common.{◌++◌, Some, length, replicate, refl, sym, ap, subst, arith, get_or}
use Rattle.std.proofs.Common.{append_assoc, slice_get, take}
use Rattle.std.proofs.lemmas.List.{append-nil, length-append, length-replicate, take_more}
use Rattle.std.proofs.lemmas.Option.{slice_get_read}
use Rattle.rc_livetext.specs.Text.{LiveText}
use Rattle.rc_historytext.specs.States.{IsSession}
use Rattle.rc_historytext.specs.Text.{GenerationText, HistoryText}
use Rattle.rc_launch.specs.Numbers.{SaySessions, marks_in, marks_of, number_at, states_behind}

-- a generation has a mark for each state
length_marks : (first last : Bool) (behind : ℕ) → length (marks_of first last behind) ≡ suc behind
length_marks first last zero = refl
length_marks first last (suc n) =
    omega (arith, length-append (replicate n false) (last ∷ []), length-replicate n false)

-- the marks of one generation more
marks_more : (gs : List GenerationText) (ss : List LiveText) (g : GenerationText) (s : LiveText)
    → SaySessions gs ss → marks_in (gs ++ g ∷ []) (ss ++ s ∷ [])
    ≡ marks_in gs ss ++ marks_of g.first_passed g.last_passed (states_behind s)
marks_more [] [] g s say =
    append-nil (marks_of g.first_passed g.last_passed (states_behind s))
marks_more [] (t ∷ ss) g s say = absurd say
marks_more (f ∷ gs) [] g s say = absurd say
marks_more (f ∷ gs) (t ∷ ss) g s say =
    ap (λ (ms : List Bool). marks_of f.first_passed f.last_passed (states_behind t) ++ ms)
    (marks_more gs ss g s say.1)
    ∙ sym (append_assoc (marks_of f.first_passed f.last_passed (states_behind t)) (marks_in gs ss)
    (marks_of g.first_passed g.last_passed (states_behind s)))

-- what one generation more says
say_more : (gs : List GenerationText) (ss : List LiveText) (g : GenerationText) (s : LiveText)
    → SaySessions gs ss → IsSession g.session s → SaySessions (gs ++ g ∷ []) (ss ++ s ∷ [])
say_more [] [] g s say is = (is, tt)
say_more [] (t ∷ ss) g s say is = absurd say
say_more (f ∷ gs) [] g s say is = absurd say
say_more (f ∷ gs) (t ∷ ss) g s say is = (say.0, say_more gs ss g s say.1 is)

-- there are as many sessions as generations
say_length : (gs : List GenerationText) (ss : List LiveText) → SaySessions gs ss
    → length ss ≡ length gs
say_length [] [] say = refl
say_length [] (t ∷ ss) say = absurd say
say_length (f ∷ gs) [] say = absurd say
say_length (f ∷ gs) (t ∷ ss) say = ap suc (say_length gs ss say.1)

-- the number of a state does not depend on the generations behind it
number_before : (place : ℕ) (ss : List LiveText) (s : LiveText) → place < length ss
    → number_at place (ss ++ s ∷ []) ≡ number_at place ss
number_before place [] s within = absurd (omega (arith, within))
number_before zero (t ∷ ss) s within = refl
number_before (suc place) (t ∷ ss) s within =
    ap (λ (n : ℕ). suc (states_behind t) + n) (number_before place ss s (omega (arith, within)))

-- the number of the current state of the last generation: all states before count
number_last : (gs : List GenerationText) (ss : List LiveText) (s : LiveText) → SaySessions gs ss
    → number_at (length gs) (ss ++ s ∷ []) ≡ length (marks_in gs ss) + length s.before
number_last [] [] s say = omega arith
number_last [] (t ∷ ss) s say = absurd say
number_last (f ∷ gs) [] s say = absurd say
number_last (f ∷ gs) (t ∷ ss) s say =
    omega (
      arith,
      number_last gs ss s say.1,
      length-append (marks_of f.first_passed f.last_passed (states_behind t)) (marks_in gs ss),
      length_marks f.first_passed f.last_passed (states_behind t),
    )

-- generations are counted, and the present one has this number, if it is among them
pub record Counted (gs : List GenerationText) (present at : ℕ) (marks : List Bool) : Type 0 where
  pub sessions : List LiveText
  pub say : SaySessions gs sessions
  pub marked : marks ≡ marks_in gs sessions
  pub placed : present < length gs → at ≡ number_at present sessions

-- one more is, which is not the present one
pub counted_on : (gs : List GenerationText) (g : GenerationText) (s : LiveText) (present at : ℕ)
    (marks more : List Bool) → Counted gs present at marks → IsSession g.session s
    → more ≡ marks ++ marks_of g.first_passed g.last_passed (states_behind s)
    → (present ≡ length gs → ⊥) → Counted (gs ++ g ∷ []) present at more
counted_on gs g s present at marks more so is grows other = record {
  sessions = so.sessions ++ s ∷ [];
  say = say_more gs so.sessions g s so.say is;
  marked = grows ∙ ap (λ (ms : List Bool). ms
      ++ marks_of g.first_passed g.last_passed (states_behind s)) so.marked
      ∙ sym (marks_more gs so.sessions g s so.say);
  placed = λ within.
      let low : present < length gs =
      omega (arith, within, other, length-append gs (g ∷ [])) in
      let among : present < length so.sessions =
      omega (arith, low, say_length gs so.sessions so.say) in
      so.placed low ∙ sym (number_before present so.sessions s among);
}

-- one more is, which is the present one
pub counted_here : (gs : List GenerationText) (g : GenerationText) (s : LiveText)
    (present at number : ℕ) (marks more : List Bool) → Counted gs present at marks
    → IsSession g.session s → number ≡ length marks + length s.before
    → more ≡ marks ++ marks_of g.first_passed g.last_passed (states_behind s)
    → present ≡ length gs → Counted (gs ++ g ∷ []) present number more
counted_here gs g s present at number marks more so is counts grows here = record {
  sessions = so.sessions ++ s ∷ [];
  say = say_more gs so.sessions g s so.say is;
  marked = grows ∙ ap (λ (ms : List Bool). ms
      ++ marks_of g.first_passed g.last_passed (states_behind s)) so.marked
      ∙ sym (marks_more gs so.sessions g s so.say);
  placed = λ within. counts
      ∙ ap (λ (ms : List Bool). length ms + length s.before) so.marked
      ∙ sym (number_last gs so.sessions s so.say)
      ∙ ap (λ (n : ℕ). number_at n (so.sessions ++ s ∷ [])) (sym here);
}

-- the generation at a place of a history, by its view, is the next one after those before it
pub next_one : (form view : HistoryText) (i : ℕ) (g : GenerationText) → view ≡ form
    → i < length view.generations → g ≡ get_or view.generations i g
    → (take (i + 1) form.generations ≡ take i form.generations ++ g ∷ [])
    × (slice_get form.generations i ≡ Some g)
next_one form view i g same within at =
    let seen = ap (λ (t : HistoryText). t.generations) same in
    let low : i < length form.generations = subst (λ (gs : List GenerationText). i < length gs) seen
    within in
    let here : g ≡ get_or form.generations i g =
    at ∙ ap (λ (gs : List GenerationText). get_or gs i g) seen in (
      take_more form.generations i g low
          ∙ ap (λ (x : GenerationText). take i form.generations ++ x ∷ []) (sym here),
      slice_get_read form.generations (length form.generations) i g refl low here,
    )
