-- Two neighbouring events of a run that two workers made change places.
use Rattle.std.proofs.Common.{◌≡◌, ◌≢◌, ◌∙◌, ◌⊎◌, inl, inr, ℕ, List, [], ◌∷◌, ◌++◌, false}
use Rattle.std.proofs.Common.{slice_index_or, length, Contains, refl, ap, sym, subst}
use Rattle.std.proofs.lemmas.Bool.{cases_Bool, cases_eq, cond-true, cond-false}
use Rattle.std.proofs.lemmas.List.{take_at}
use Rattle.std.proofs.lemmas.List.Elements.{Contains-push, Contains-push_cases}
use Rattle.rc_model.specs.Graph.{Needs}
use Rattle.rc_model.specs.declared.Standing.{Standing}
use Rattle.rc_model.specs.declared.Standing.TheVariants.{Down, Rising, Up, Sinking}
use Rattle.rc_model.specs.declared.Outcome.{Outcome}
use Rattle.rc_model.specs.declared.Event.{Event}
use Rattle.rc_model.specs.declared.Event.TheVariants.{Take, Done, Stop}
use Rattle.rc_model.specs.Run.{Course, CanMove, IsFree, IsHeldBy, IsLegal, IsRun, IsStopped}
use Rattle.rc_model.specs.Run.{after_take, standing_at_first, standing_of}
use Rattle.rc_model.proofs.EventLemmas.{still_there, take_then_take, take_then_done, done_then_take}
use Rattle.rc_model.proofs.EventLemmas.{done_then_done}
use Rattle.rc_model.proofs.RunLemmas.{run_prefix, run_push, slice_get-push_last}
use Rattle.rc_model.proofs.StandingLemmas.{standing_take_here, standing_take_other}
use Rattle.rc_model.proofs.StandingLemmas.{standing_done_other}
use Rattle.rc_core.proofs.Places.{move_is_left}
use Rattle.rc_core.proofs.Stories.{story_of}

-- a run without its last event, and that this is legal
pub front : (c : Course) (a : List Event) (x : Event) → IsRun c (a ++ x ∷ []) → IsRun c a
front c a x run = subst (λ (l : List Event). IsRun c l) (take_at a (x ∷ []) (length a) refl)
    (run_prefix c (a ++ x ∷ []) (length a) run)

pub last : (c : Course) (a : List Event) (x : Event) → IsRun c (a ++ x ∷ []) → IsLegal c a x
last c a x run = subst (λ (l : List Event). IsLegal c l x) (take_at a (x ∷ []) (length a) refl)
    (run (length a) x (slice_get-push_last a x))

-- what is on its way neither is down nor up
moving_not_down : (standing : Standing) → (standing ≡ Down) ⊎ (standing ≡ Up)
    → after_take standing ≡ Down → ⊥
moving_not_down Down at e = let bad : Rising ≡ Down = e in cc
moving_not_down Up at e = let bad : Sinking ≡ Down = e in cc
moving_not_down Rising at e =
    elim at [
      | inl h ↦ (let bad : Rising ≡ Down = h in cc)
      | inr h ↦
          (let bad : Rising ≡ Up = h in cc)
    ]
moving_not_down Sinking at e =
    elim at [
      | inl h ↦ (let bad : Sinking ≡ Down = h in cc)
      | inr h ↦
          (let bad : Sinking ≡ Up = h in cc)
    ]

moving_not_up : (standing : Standing) → (standing ≡ Down) ⊎ (standing ≡ Up)
    → after_take standing ≡ Up → ⊥
moving_not_up Down at e = let bad : Rising ≡ Up = e in cc
moving_not_up Up at e = let bad : Sinking ≡ Up = e in cc
moving_not_up Rising at e =
    elim at [
      | inl h ↦ (let bad : Rising ≡ Down = h in cc)
      | inr h ↦
          (let bad : Rising ≡ Up = h in cc)
    ]
moving_not_up Sinking at e =
    elim at [
      | inl h ↦ (let bad : Sinking ≡ Down = h in cc)
      | inr h ↦
          (let bad : Sinking ≡ Up = h in cc)
    ]

stands_before : (c : Course) (a : List Event) (s : ℕ) → CanMove c a s
    → (standing_of c a s ≡ Down) ⊎ (standing_of c a s ≡ Up)
stands_before c a s move = elim move [ inl sink ↦ inr sink.up | inr rise ↦ inl rise.down ]

at_first : (c : Course) (s : ℕ) → (standing_at_first c s ≡ Down) ⊎ (standing_at_first c s ≡ Up)
at_first c s = elim (cases_Bool (slice_index_or c.up s false)) [
  | inl up ↦ inr (cond-true (slice_index_or c.up s false) Up Down up)
  | inr down ↦ inl (cond-false (slice_index_or c.up s false) Up Down down)
]

-- what a worker holds is on its way
held_moves : (c : Course) (a : List Event) (v t : ℕ) → IsRun c a → IsHeldBy a v t
    → standing_of c a t ≡ after_take (standing_at_first c t)
held_moves c a v t run held = elim (story_of c a t run) [
  | inl stayed ↦ absurd (stayed.fresh (v, held.0))
  | inr (inl out) ↦ out.stands
  | inr (inr back) ↦ absurd
      (held.1 back.outcome
      (subst (λ (x : ℕ). Contains a (Done x t back.outcome)) (sym (back.alone v held.0)) back.at))
]

held_not_down : (c : Course) (a : List Event) (v t : ℕ) → IsRun c a → IsHeldBy a v t
    → standing_of c a t ≡ Down → ⊥
held_not_down c a v t run held down =
    moving_not_down (standing_at_first c t) (at_first c t) (sym (held_moves c a v t run held)
    ∙ down)

held_not_up : (c : Course) (a : List Event) (v t : ℕ) → IsRun c a → IsHeldBy a v t
    → standing_of c a t ≡ Up → ⊥
held_not_up c a v t run held up =
    moving_not_up (standing_at_first c t) (at_first c t) (sym (held_moves c a v t run held) ∙ up)

stop_then_done : (a : List Event) (v t : ℕ) (o : Outcome) → IsStopped (a ++ Done v t o ∷ [])
    → IsStopped a
stop_then_done a v t o h = (
  h.0,
  h.1,
  elim (Contains-push_cases a (Done v t o) (Stop h.0 h.1) h.2) [
    | inl before ↦ before
    | inr now ↦ absurd (let bad : Done v t o ≡ Stop h.0 h.1 = now in cc)
  ],
)

stop_then_take : (a : List Event) (v t : ℕ) → IsStopped (a ++ Take v t ∷ []) → IsStopped a
stop_then_take a v t h = (
  h.0,
  h.1,
  elim (Contains-push_cases a (Take v t) (Stop h.0 h.1) h.2) [
    | inl before ↦ before
    | inr now ↦ absurd (let bad : Take v t ≡ Stop h.0 h.1 = now in cc)
  ],
)

-- a take before an end
pub take_done : (c : Course) (a : List Event) (w s v t : ℕ) (o : Outcome) → w ≢ v
    → IsRun c ((a ++ Take w s ∷ []) ++ Done v t o ∷ [])
    → IsRun c ((a ++ Done v t o ∷ []) ++ Take w s ∷ [])
take_done c a w s v t o apart run =
    let first : IsRun c (a ++ Take w s ∷ []) = front c (a ++ Take w s ∷ []) (Done v t o) run in
    let start : IsRun c a = front c a (Take w s) first in
    let taken : IsLegal c a (Take w s) = last c a (Take w s) first in
    let ended : IsLegal c (a ++ Take w s ∷ []) (Done v t o) =
    last c (a ++ Take w s ∷ []) (Done v t o) run in
    let took : Contains a (Take v t) =
    elim (take_then_take a w s v t ended.1.0) [
      | inl before ↦ before
      | inr now ↦
          absurd (apart (sym now.0))
    ] in
    let held : IsHeldBy a v t =
    (took, λ p h. ended.1.1 p (still_there a (Take w s) (Done v t p) h)) in
    let fresh = (move_is_left c a s taken.3).1 in
    let other : t ≢ s = λ same. fresh (v, subst (λ (x : ℕ). Contains a (Take v x)) same took) in
    let all : List Event = a ++ Done v t o ∷ [] in
    let free : IsFree all w =
    λ x h. taken.2 x (
      take_then_done a v t o w x h.0,
      λ p d. h.1 p (still_there a (Done v t o) (Done w x p) d),
    ) in
    let fresh_still : (h : (u : ℕ) × Contains all (Take u s)) → ⊥ =
    λ h. fresh (h.0, take_then_done a v t o h.0 s h.1) in
    let move : CanMove c all s = elim taken.3 [
      | inl sink ↦ inl (record {
        planned = sink.planned;
        up = standing_done_other c a v t s o other ∙ sink.up;
        fresh = fresh_still;
        needed_by_none = λ r need. elim (cases_eq t r) [
          | inl is ↦ absurd (held_not_down c a v t start held (ap (standing_of c a) is
              ∙ sink.needed_by_none r need))
          | inr apart ↦ standing_done_other c a v t r o apart ∙ sink.needed_by_none r need
        ];
      })
      | inr rise ↦ inr (record {
        planned = rise.planned;
        down = standing_done_other c a v t s o other ∙ rise.down;
        fresh = fresh_still;
        needs_up = λ x need. elim (cases_eq t x) [
          | inl is ↦ absurd (held_not_up c a v t start held (ap (standing_of c a) is
              ∙ rise.needs_up x need))
          | inr apart ↦ standing_done_other c a v t x o apart ∙ rise.needs_up x need
        ];
      })
    ] in
    run_push c all (Take w s) (run_push c a (Done v t o) start (ended.0, held))
    (taken.0, λ h. taken.1 (stop_then_done a v t o h), free, move)

-- two ends
pub dones : (c : Course) (a : List Event) (w s v t : ℕ) (o p : Outcome) → w ≢ v
    → IsRun c ((a ++ Done w s o ∷ []) ++ Done v t p ∷ [])
    → IsRun c ((a ++ Done v t p ∷ []) ++ Done w s o ∷ [])
dones c a w s v t o p apart run =
    let first : IsRun c (a ++ Done w s o ∷ []) = front c (a ++ Done w s o ∷ []) (Done v t p) run in
    let start : IsRun c a = front c a (Done w s o) first in
    let one : IsLegal c a (Done w s o) = last c a (Done w s o) first in
    let two : IsLegal c (a ++ Done w s o ∷ []) (Done v t p) =
    last c (a ++ Done w s o ∷ []) (Done v t p) run in
    let held : IsHeldBy a v t = (
      take_then_done a w s o v t two.1.0,
      λ q h. two.1.1 q (still_there a (Done w s o) (Done v t q) h),
    ) in
    let held_still : IsHeldBy (a ++ Done v t p ∷ []) w s = (
      still_there a (Done v t p) (Take w s) one.1.0,
      λ q h. elim (done_then_done a v t p w s q h) [
        | inl before ↦ one.1.1 q before
        | inr now ↦
            apart now.0
      ],
    ) in
    run_push c (a ++ Done v t p ∷ []) (Done w s o) (run_push c a (Done v t p) start (two.0, held))
    (one.0, held_still)

-- two takes
pub takes : (c : Course) (a : List Event) (w s v t : ℕ) → w ≢ v
    → IsRun c ((a ++ Take w s ∷ []) ++ Take v t ∷ [])
    → IsRun c ((a ++ Take v t ∷ []) ++ Take w s ∷ [])
takes c a w s v t apart run =
    let mid : List Event = a ++ Take w s ∷ [] in
    let all : List Event = a ++ Take v t ∷ [] in
    let first : IsRun c mid = front c mid (Take v t) run in
    let start : IsRun c a = front c a (Take w s) first in
    let one : IsLegal c a (Take w s) = last c a (Take w s) first in
    let two : IsLegal c mid (Take v t) = last c mid (Take v t) run in
    let other : s ≢ t = λ same. (move_is_left c mid t two.3).1 (
      w,
      subst (λ (x : ℕ). Contains mid (Take w x)) same (Contains-push a (Take w s)),
    ) in
    let other_back : t ≢ s = λ same. other (sym same) in
    let moving : standing_of c mid s ≡ after_take (standing_of c a s) =
    standing_take_here c a w s in
    let not_down : standing_of c mid s ≡ Down → ⊥ =
    λ e. moving_not_down (standing_of c a s) (stands_before c a s one.3) (sym moving ∙ e) in
    let not_up : standing_of c mid s ≡ Up → ⊥ =
    λ e. moving_not_up (standing_of c a s) (stands_before c a s one.3) (sym moving ∙ e) in
    let free_two : IsFree a v =
    λ x h. two.2 x (
      still_there a (Take w s) (Take v x) h.0,
      λ p d. h.1 p (done_then_take a w s v x p d),
    ) in
    let move_two : CanMove c a t = elim two.3 [
      | inl sink ↦ inl (record {
        planned = sink.planned;
        up = sym (standing_take_other c a w s t other) ∙ sink.up;
        fresh = λ h. sink.fresh (h.0, still_there a (Take w s) (Take h.0 t) h.1);
        needed_by_none = λ r need. elim (cases_eq s r) [
          | inl is ↦ absurd (not_down (ap (standing_of c mid) is ∙ sink.needed_by_none r need))
          | inr apart ↦ sym (standing_take_other c a w s r apart) ∙ sink.needed_by_none r need
        ];
      })
      | inr rise ↦ inr (record {
        planned = rise.planned;
        down = sym (standing_take_other c a w s t other) ∙ rise.down;
        fresh = λ h. rise.fresh (h.0, still_there a (Take w s) (Take h.0 t) h.1);
        needs_up = λ x need. elim (cases_eq s x) [
          | inl is ↦ absurd (not_up (ap (standing_of c mid) is ∙ rise.needs_up x need))
          | inr apart ↦ sym (standing_take_other c a w s x apart) ∙ rise.needs_up x need
        ];
      })
    ] in
    let legal_two : IsLegal c a (Take v t) = (
      two.0,
      λ h. two.1 (h.0, h.1, still_there a (Take w s) (Stop h.0 h.1) h.2),
      free_two,
      move_two,
    ) in
    let free_one : IsFree all w = λ x h. one.2 x (
      elim (take_then_take a v t w x h.0) [ inl before ↦ before | inr now ↦ absurd (apart now.0) ],
      λ p d. h.1 p (still_there a (Take v t) (Done w x p) d),
    ) in
    let fresh_one : (h : (u : ℕ) × Contains all (Take u s)) → ⊥ =
    λ h. (move_is_left c a s one.3).1 (
      h.0,
      elim (take_then_take a v t h.0 s h.1) [
        | inl before ↦ before
        | inr now ↦
            absurd (other now.1)
      ],
    ) in
    -- what t is to s: t stands at the middle as it does at first
    let stands_t : standing_of c mid t ≡ standing_of c a t = standing_take_other c a w s t other in
    let move_one : CanMove c all s = elim one.3 [
      | inl sink ↦ inl (record {
        planned = sink.planned;
        up = standing_take_other c a v t s other_back ∙ sink.up;
        fresh = fresh_one;
        needed_by_none = λ r need. elim (cases_eq t r) [
          | inl is ↦ absurd (elim two.3 [
            | inl down ↦ (let bad : Up ≡ Down = sym down.up ∙ stands_t ∙ ap (standing_of c a) is
                ∙ sink.needed_by_none r need in cc)
            | inr up ↦ not_up (up.needs_up s (subst (λ (x : ℕ). Needs c.needs x s) (sym is) need))
          ])
          | inr apart ↦ standing_take_other c a v t r apart ∙ sink.needed_by_none r need
        ];
      })
      | inr rise ↦ inr (record {
        planned = rise.planned;
        down = standing_take_other c a v t s other_back ∙ rise.down;
        fresh = fresh_one;
        needs_up = λ x need. elim (cases_eq t x) [
          | inl is ↦ absurd (elim two.3 [
            | inl down ↦ not_down
                (down.needed_by_none s (subst (λ (y : ℕ). Needs c.needs s y) (sym is) need))
            | inr up ↦ (let bad : Down ≡ Up = sym up.down ∙ stands_t ∙ ap (standing_of c a) is
                ∙ rise.needs_up x need in cc)
          ])
          | inr apart ↦ standing_take_other c a v t x apart ∙ rise.needs_up x need
        ];
      })
    ] in
    run_push c all (Take w s) (run_push c a (Take v t) start legal_two)
    (one.0, λ h. one.1 (stop_then_take a v t h), free_one, move_one)
