-- What joined pads make, with a gate that says what they tell.
use Rattle.std.proofs.Common.{◌≡◌, ℕ, ◌+◌, ◌-◌, ◌≤◌, ◌<◌, ◌==◌, Bool, true, false, cond, List, []}
use Rattle.std.proofs.Common.{◌∷◌, Option, length, get_or, arith, refl, sym, subst}
use Rattle.std.specs.List.{All}
use Rattle.std.proofs.lemmas.List.Elements.{All-nil, All-cons, All-head, All-tail, All-map}
use Rattle.std.proofs.lemmas.Bool.{eq-eqb}
use Rattle.rc_graph.specs.declared.Way.{Way}
use Rattle.rc_model.specs.declared.Outcome.{Outcome}
use Rattle.rc_model.specs.declared.Event.{Event}
use Rattle.rc_model.specs.declared.Event.TheVariants.{Take, Done, Stop}
use Rattle.rc_board.specs.declared.note.Note.{Note}
use Rattle.rc_board.specs.Made.{worker_of, IsSaidInTime, AreMadeInTime}
use Rattle.rc_board.specs.Pads.{Written, own, events_on, way_of, IsSaidWith, AreSaid}
use Rattle.rc_board.specs.Interleaving.{IsOfCrew, AreInterleaved}

pub own_head : (w : ℕ) (e : Event) (es : List Event) → (worker_of e == w) ≡ true
    → own w (e ∷ es) ≡ e ∷ own w es
own_head w e es h = rw h refl

kept_tail : (P : Event → Type 0) (b : Bool) (e : Event) (es : List Event)
    → All P (cond b (e ∷ es) es) → All P es
kept_tail P true e es a = All-tail P e es a
kept_tail P false e es a = a

own_tail : (P : Event → Type 0) (w : ℕ) (e : Event) (es : List Event)
    → All P (own w (e ∷ es)) → All P (own w es)
own_tail P w e es a = kept_tail P (worker_of e == w) e (own w es) a

-- what holds of the events of each worker holds of all, where each is of the crew
all_from_own : (P : Event → Type 0) (n : ℕ) (es : List Event) → All (IsOfCrew n) es
    → ((w : ℕ) → 1 ≤ w → w ≤ n → All P (own w es)) → All P es
all_from_own P n [] a h = All-nil P
all_from_own P n (e ∷ es) a h =
    let w = worker_of e in
    let number = All-head (IsOfCrew n) e es a in
    let same : (worker_of e == w) ≡ true = eq-eqb (worker_of e) w refl in
    let mine : All P (e ∷ own w es) =
    subst (λ (xs : List Event). All P xs) (own_head w e es same) (h w number.0 number.1) in
    All-cons P e es (All-head P e (own w es) mine)
    (all_from_own P n es (All-tail (IsOfCrew n) e es a)
    (λ v low high. own_tail P v e es (h v low high)))

module _ (Answers : ℕ → Way → Outcome → Type 0) (Gives : ℕ → Type 0) (deadline : Option ℕ)
    (up : List Bool) where
  -- an event whose way is that of its service
  said_so : (e : Event) → IsSaidWith Answers Gives deadline e (way_of up e)
      → IsSaidInTime Answers Gives deadline up e
  said_so (Take w s) said = said
  said_so (Done w s o) said = said
  said_so (Stop w m) said = said

  note_said : (x : Note) → IsSaidWith Answers Gives deadline x.event x.way
      → x.way ≡ way_of up x.event
      → IsSaidInTime Answers Gives deadline up x.event
  note_said x said is =
      said_so x.event
      (subst (λ (way : Option Way). IsSaidWith Answers Gives deadline x.event way) is said)

  pad_said : (xs : List Note) → AreSaid Answers Gives deadline xs
      → All (λ (x : Note). x.way ≡ way_of up x.event) xs
      → All (IsSaidInTime Answers Gives deadline up) (events_on xs)
  pad_said xs said ways =
      All-map (IsSaidInTime Answers Gives deadline up) (λ (x : Note). x.event) xs
      (λ k d low. note_said (get_or xs k d) (said k d low) (ways k d low))

  -- the events of a worker, from its pad
  own_said : (pads : List Written) (es : List Event) (k : ℕ) → k < length pads
      → AreInterleaved up pads es
      → All (λ (p : Written). AreSaid Answers Gives deadline p.notes) pads
      → All (IsSaidInTime Answers Gives deadline up) (own (k + 1) es)
  own_said pads es k low joined said =
      let none : Written = record { notes = []; room = 0 } in
      subst (λ (xs : List Event). All (IsSaidInTime Answers Gives deadline up) xs)
      (sym (joined.each k none low))
      (pad_said (get_or pads k none).notes (said k none low) (joined.ways k none low))

  -- an interleaving of pads that tell what the gate may say was made with it
  pub joined_made : (pads : List Written) (es : List Event) → AreInterleaved up pads es
      → All (λ (p : Written). AreSaid Answers Gives deadline p.notes) pads
      → AreMadeInTime (length pads) Answers Gives deadline up es
  joined_made pads es joined said = record {
    numbers = λ k d low. (joined.numbers k d low).1;
    said = all_from_own (IsSaidInTime Answers Gives deadline up) (length pads) es joined.numbers
        (λ w low high.
        let within : w - 1 < length pads = omega arith in
        let back : (w - 1) + 1 ≡ w = omega arith in
        subst (λ (v : ℕ). All (IsSaidInTime Answers Gives deadline up) (own v es)) back
        (own_said pads es (w - 1) within joined said));
  }
