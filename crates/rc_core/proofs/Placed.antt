-- Queues in which the place of each service is written down.
use Rattle.std.proofs.Common.{◌≡◌, ◌≢◌, ◌∙◌, ◌↔◌, ℕ, ◌+◌, ◌<◌, ◌≤◌, List, Bool, ◌++◌, ◌∷◌, []}
use Rattle.std.proofs.Common.{Contains, All, inl, inr, length, slice_index, slice_index_or}
use Rattle.std.proofs.Common.{slice_set, vec_len, vec_capacity, ◌-◌, refl, sym, ap, subst, arith}
use Rattle.std.proofs.Common.{get_or-set_same, get_or-set_other}
use Rattle.std.proofs.lemmas.Bool.{cases_lt, cases_eq}
use Rattle.std.proofs.lemmas.List.{get_or_default, get_or_append_left, get_or_push, get_or_read}
use Rattle.std.proofs.lemmas.List.{length_push, length-set}
use Rattle.std.proofs.lemmas.List.Elements.{All-push, Contains-get_or}
use Rattle.std.specs.Global.{Vec}
use Rattle.rc_graph.specs.Order.{AreDistinct}
use Rattle.rc_core.specs.declared.ready.Ready.{Ready}
use Rattle.rc_core.specs.Ready.{ArePlaces, IsPlaced, Queues, TakesOut}
use Rattle.rc_model.proofs.SetMembers.{has_within}

module _ (queue places : List ℕ) (placed : ArePlaces queue places) where
  -- what stands at two places differs
  one_place : (i j : ℕ) → i < length queue → j < length queue
      → slice_index queue i ≡ slice_index queue j → i ≡ j
  one_place i j low within same =
      sym (placed i low) ∙ ap (λ (s : ℕ). slice_index places s) same ∙ placed j within

  -- so no service stands twice
  pub placed_once : AreDistinct queue
  placed_once i j d before within same =
      let low : i < length queue = omega arith in
      let e : slice_index queue i ≡ slice_index queue j =
      get_or_default queue i 0 d low ∙ same ∙ get_or_default queue j d 0 within in
      omega (arith, one_place i j low within e)

  -- a service of the queue stands at its place
  pub stands_at : (s : ℕ) → Contains queue s
      → (slice_index places s < length queue) × (slice_index queue (slice_index places s) ≡ s)
  stands_at s (k, low, is) =
      let here : slice_index queue k ≡ s = get_or_default queue k 0 s low ∙ is in
      let at : slice_index places s ≡ k =
      sym (ap (λ (t : ℕ). slice_index places t) here) ∙ placed k low in
      (omega (arith, at, low), subst (λ (j : ℕ). slice_index queue j ≡ s) (sym at) here)

  -- one more stands last
  pub placed_more : (x : ℕ) → x < length places → (Contains queue x → ⊥)
      → ArePlaces (queue ++ x ∷ []) (slice_set places x (length queue))
  placed_more x known out k low =
      let long = length_push queue x in
      elim (cases_lt k (length queue)) [
        | inl before ↦
            let e : slice_index (queue ++ x ∷ []) k ≡ slice_index queue k =
            get_or_append_left queue (x ∷ []) 0 k before in
            let other : slice_index queue k ≢ x = λ same.
            out (k, before, get_or_default queue k x 0 before ∙ same) in
            ap (λ (s : ℕ). slice_index (slice_set places x (length queue)) s) e
            ∙ get_or-set_other places x (slice_index queue k) (length queue) 0 other
            ∙ placed k before
        | inr behind ↦
            let same : length queue ≡ k = omega (arith, low, long) in
            let e : slice_index (queue ++ x ∷ []) k ≡ x = get_or_push queue x 0 k same in
            ap (λ (s : ℕ). slice_index (slice_set places x (length queue)) s) e
            ∙ get_or-set_same places x (length queue) 0 known ∙ same
      ]

-- one is taken out, and what stood last takes its place
module _ (queue less places : List ℕ) (at s : ℕ) (placed : ArePlaces queue places)
    (within : at < length queue) (here : slice_index queue at ≡ s)
    (shorter : length less + 1 ≡ length queue)
    (moved : at < length less → slice_index less at ≡ slice_index queue (length less))
    (stays : (k : ℕ) → k ≢ at → k < length less → slice_index less k ≡ slice_index queue k) where
  -- what is left stood somewhere else
  left_from : (k : ℕ) → k < length less → (j : ℕ) × (j < length queue) × (j ≢ at)
      × (slice_index less k ≡ slice_index queue j)
  left_from k low = elim (cases_eq k at) [
    | inl same ↦
        let front : at < length less = omega (arith, same, low) in
        let other : length less ≢ at = omega arith in (
          length less,
          omega (arith, shorter),
          other,
          ap (λ (j : ℕ). slice_index less j) same ∙ moved front,
        )
    | inr other ↦ (k, omega (arith, shorter), other, stays k other low)
  ]

  pub left_of : (t : ℕ) → Contains less t ↔ (Contains queue t × (t ≢ s))
  left_of t = (
    λ (k, low, is).
        let from = left_from k low in
        let e : slice_index queue from.0 ≡ t =
        sym from.3 ∙ get_or_default less k 0 t low ∙ is in (
          (from.0, from.1, get_or_default queue from.0 t 0 from.1 ∙ e),
          λ same. from.2
              (one_place queue places placed from.0 at from.1 within (e ∙ same ∙ sym here)),
        ),
    λ h.
        let stood = h.0 in
        let e : slice_index queue stood.0 ≡ t =
        get_or_default queue stood.0 0 t stood.1 ∙ stood.2 in
        let other : stood.0 ≢ at = λ same.
        h.1 (sym e ∙ ap (λ (j : ℕ). slice_index queue j) same ∙ here) in
        elim (cases_lt stood.0 (length less)) [
          | inl front ↦ (
            stood.0,
            front,
            get_or_default less stood.0 t 0 front ∙ stays stood.0 other front ∙ e,
          )
          | inr last ↦
              let end : stood.0 ≡ length less = omega (arith, stood.1, shorter) in
              let front : at < length less = omega (arith, other) in (
                at,
                front,
                get_or_default less at t 0 front ∙ moved front
                    ∙ ap (λ (j : ℕ). slice_index queue j) (sym end) ∙ e,
              )
        ],
  )

  -- where something took its place, that is written down
  pub placed_moved : at < length less → (known : slice_index less at < length places)
      → ArePlaces less (slice_set places (slice_index less at) at)
  placed_moved front known k low = elim (cases_eq k at) [
    | inl same ↦
        ap (λ (j : ℕ). slice_index (slice_set places (slice_index less at) at) (slice_index less j))
        same ∙ get_or-set_same places (slice_index less at) at 0 known ∙ sym same
    | inr other ↦
        let e : slice_index less k ≡ slice_index queue k = stays k other low in
        let apart : slice_index queue k ≢ slice_index less at = λ same.
        omega (
          arith,
          low,
          one_place queue places placed k (length less) (omega (arith, shorter))
              (omega (arith, shorter)) (same ∙ moved front),
        ) in
        ap (λ (t : ℕ). slice_index (slice_set places (slice_index less at) at) t) e
        ∙ get_or-set_other places (slice_index less at) (slice_index queue k) at 0 apart
        ∙ placed k (omega (arith, shorter))
  ]

  -- where it stood last, nothing is
  pub placed_last : length less ≤ at → ArePlaces less places
  placed_last last k low =
      let other : k ≢ at = omega arith in
      ap (λ (t : ℕ). slice_index places t) (stays k other low) ∙ placed k (omega (arith, shorter))

  -- and all of it is known
  pub left_known : (bound : ℕ) → All (λ t. t < bound) queue → All (λ t. t < bound) less
  left_known bound all k d low =
      let from = left_from k low in
      let e : slice_index_or less k d ≡ slice_index_or queue from.0 d =
      get_or_default less k d 0 low ∙ from.3 ∙ get_or_default queue from.0 0 d from.1 in
      subst (λ (t : ℕ). t < bound) (sym e) (all from.0 d from.1)

-- a service is taken out of the queue at its place
module _ (old : Ready) (queue : Vec ℕ) (at s : ℕ) (placed : IsPlaced old)
    (there : Contains old.queue.items s) (at_is : at ≡ slice_index_or old.places.items s at)
    (len : vec_len queue + 1 ≡ vec_len old.queue)
    (moves : (d : ℕ) → at + 1 < vec_len old.queue → slice_index_or queue.items at d
    ≡ slice_index_or old.queue.items (vec_len old.queue - 1) d)
    (stays : (k d : ℕ) → k ≢ at → k + 1 < vec_len old.queue → slice_index_or queue.items k d
    ≡ slice_index_or old.queue.items k d) where
  known_here : s < length old.places.items
  known_here = let low : slice_index_or old.queue.items there.0 s < length old.waits.items =
      placed.known there.0 s there.1 in
      omega (arith, low, there.2, placed.bound)

  place : at ≡ slice_index old.places.items s
  place = get_or_read old.places.items s at known_here at_is 0

  stood : (at < length old.queue.items) × (slice_index old.queue.items at ≡ s)
  stood =
      let h = stands_at old.queue.items old.places.items placed.places s there in
      (omega (arith, place, h.0), ap (λ (j : ℕ). slice_index old.queue.items j) place ∙ h.1)

  -- the place is in the queue
  pub at_low : at < vec_len old.queue
  at_low = omega (arith, stood.0, old.queue.ok.0)

  shorter : length queue.items + 1 ≡ length old.queue.items
  shorter = omega (arith, len, queue.ok.0, old.queue.ok.0)

  moved : at < length queue.items
      → slice_index queue.items at ≡ slice_index old.queue.items (length queue.items)
  moved low =
      let last : vec_len old.queue - 1 ≡ length queue.items =
      omega (arith, shorter, old.queue.ok.0) in
      moves 0 (omega (arith, shorter, old.queue.ok.0))
      ∙ ap (λ (j : ℕ). slice_index old.queue.items j) last

  stay : (k : ℕ) → k ≢ at → k < length queue.items
      → slice_index queue.items k ≡ slice_index old.queue.items k
  stay k other low = stays k 0 other (omega (arith, shorter, old.queue.ok.0))

  all_known : All (λ t. t < length old.waits.items) queue.items
  all_known =
      left_known old.queue.items queue.items old.places.items at s placed.places stood.0 stood.1
      shorter moved stay (length old.waits.items) placed.known

  known_moved : at < length queue.items → slice_index queue.items at < length old.places.items
  known_moved low = let here : slice_index_or queue.items at 0 < length old.waits.items =
      all_known at 0 low in
      omega (arith, here, placed.bound)

  places_moved : at < length queue.items
      → ArePlaces queue.items (slice_set old.places.items (slice_index queue.items at) at)
  places_moved low =
      placed_moved old.queue.items queue.items old.places.items at s placed.places stood.0
      stood.1 shorter moved stay low (known_moved low)

  places_last : length queue.items ≤ at → ArePlaces queue.items old.places.items
  places_last high =
      placed_last old.queue.items queue.items old.places.items at s placed.places stood.0 stood.1
      shorter moved stay high

  -- it is out
  pub is_taken : vec_capacity queue ≡ vec_capacity old.queue → (places : Vec ℕ)
      → TakesOut old s (record { waits = old.waits; queue = queue; places = places })
  is_taken capacity places = record {
    waits = refl;
    once = elim (cases_lt at (length queue.items)) [
      | inl low ↦ placed_once queue.items
          (slice_set old.places.items (slice_index queue.items at) at) (places_moved low)
      | inr high ↦ placed_once queue.items old.places.items (places_last high)
    ];
    ones =
        left_of old.queue.items queue.items old.places.items at s placed.places stood.0 stood.1
        shorter moved stay;
    capacity = capacity;
  }

  -- and all others have their places
  pub still_placed : (places : Vec ℕ) (x : ℕ) → at < length queue.items
      → x ≡ slice_index_or queue.items at x → places.items ≡ slice_set old.places.items x at
      → IsPlaced (record { waits = old.waits; queue = queue; places = places })
  still_placed places x low read is =
      let e : x ≡ slice_index queue.items at = get_or_read queue.items at x low read 0 in
      let written : places.items
      ≡ slice_set old.places.items (slice_index queue.items at) at =
      is ∙ ap (λ (y : ℕ). slice_set old.places.items y at) e in
      record {
        bound = ap length is ∙ length-set old.places.items x at ∙ placed.bound;
        small = placed.small;
        known = all_known;
        places = subst (ArePlaces queue.items) (sym written) (places_moved low);
      }

  pub still_placed_last : length queue.items ≤ at
      → IsPlaced (record { waits = old.waits; queue = queue; places = old.places })
  still_placed_last high = record {
    bound = placed.bound;
    small = placed.small;
    known = all_known;
    places = places_last high;
  }

-- the services of a queue are known
pub queued_known : (waits : List ℕ) (planned : List Bool) (queue : Vec ℕ) (bound : ℕ)
    → Queues waits planned queue → length planned ≡ bound → All (λ s. s < bound) queue.items
queued_known waits planned queue bound queued long k d low =
    let s = slice_index_or queue.items k d in
    let has = ((queued.ones s).0 (Contains-get_or queue.items k d low)).0 in
    omega (arith, has_within planned s has, long)

-- one more goes in
pub placed_push : (old new : Ready) (x n : ℕ) → IsPlaced old → x < length old.waits.items
    → (Contains old.queue.items x → ⊥) → new.queue.items ≡ old.queue.items ++ x ∷ []
    → new.places.items ≡ slice_set old.places.items x n → n ≡ length old.queue.items
    → length new.waits.items ≡ length old.waits.items → IsPlaced new
placed_push old new x n placed known out queue places end waits =
    let low : x < length old.places.items = omega (arith, known, placed.bound) in
    let written : new.places.items ≡ slice_set old.places.items x (length old.queue.items) =
    places ∙ ap (λ (m : ℕ). slice_set old.places.items x m) end in
    let here : All (λ t. t < length new.waits.items) (old.queue.items ++ x ∷ []) =
    All-push (λ t. t < length new.waits.items) old.queue.items x
    (subst (λ (m : ℕ). All (λ t. t < m) old.queue.items) (sym waits) placed.known)
    (omega (arith, known, waits)) in
    record {
      bound = ap length places ∙ length-set old.places.items x n ∙ placed.bound ∙ sym waits;
      small = omega (arith, placed.small, waits);
      known = subst (All (λ t. t < length new.waits.items)) (sym queue) here;
      places =
          rw (queue, written)
          (placed_more old.queue.items old.places.items placed.places x low out);
    }

-- or none does
pub placed_same : (old new : Ready) → IsPlaced old → new.queue.items ≡ old.queue.items
    → new.places.items ≡ old.places.items → length new.waits.items ≡ length old.waits.items
    → IsPlaced new
placed_same old new placed queue places waits = record {
  bound = ap length places ∙ placed.bound ∙ sym waits;
  small = omega (arith, placed.small, waits);
  known =
      subst (All (λ t. t < length new.waits.items)) (sym queue)
      (subst (λ (m : ℕ). All (λ t. t < m) old.queue.items) (sym waits) placed.known);
  places = rw (queue, places) placed.places;
}
