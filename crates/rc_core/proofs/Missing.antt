-- What a service still waits for, and how events change it.
use Rattle.std.proofs.Common.{◌≡◌, ◌≢◌, ◌∙◌, ◌⊎◌, ◌↔◌, ℕ, List, [], ◌∷◌, ◌++◌, true, false}
use Rattle.std.proofs.Common.{inl, inr, refl, ap, sym, subst}
use Rattle.std.proofs.lemmas.Bool.{cases_eq}
use Rattle.rc_model.specs.Names.{Has}
use Rattle.rc_model.specs.Graph.{Needs}
use Rattle.rc_model.specs.declared.Standing.{Standing}
use Rattle.rc_model.specs.declared.Standing.TheVariants.{Down, Rising, Up, Sinking}
use Rattle.rc_model.specs.declared.Outcome.{Outcome}
use Rattle.rc_model.specs.declared.Event.{Event}
use Rattle.rc_model.specs.declared.Event.TheVariants.{Take, Done}
use Rattle.rc_model.specs.Run.{Course, IsPlanned, is_success, after_take, standing_of, WasTaken}
use Rattle.rc_model.specs.Run.{IsHeldBy, CanMove, IsRun}
use Rattle.rc_model.specs.Beside.{IsCourse}
use Rattle.rc_core.specs.Ready.{IsMissing, IsNext}
use Rattle.rc_model.proofs.RunLemmas.{taken_was_planned, done_was_taken}
use Rattle.rc_model.proofs.StandingLemmas.{standing_take_here, standing_take_other}
use Rattle.rc_model.proofs.StandingLemmas.{standing_done_here, standing_done_other}
use Rattle.rc_model.proofs.StandingLemmas.{standing_first_up, standing_first_down}
use Rattle.rc_core.proofs.Stories.{story_of, held_stands}
use Rattle.rc_core.proofs.Places.{move_is_left}

-- what a service that comes up needs does not go down
pub needed_stays : (c : Course) → IsCourse c → (s t : ℕ) → Has c.raise s → Needs c.needs s t
    → Has c.lower t → ⊥
needed_stays c course s t raise need lower = elim (course.target s t (inr raise) need) [
  | inl stays ↦ stays.1 lower
  | inr rises ↦ course.rises t rises (course.falls t lower)
]

-- a service is up or not
pub up_or_not : (standing : Standing) → (standing ≡ Up) ⊎ (standing ≢ Up)
up_or_not Up = inl refl
up_or_not Down = inr (λ e. let bad : Down ≡ Up = e in cc)
up_or_not Rising = inr (λ e. let bad : Rising ≡ Up = e in cc)
up_or_not Sinking = inr (λ e. let bad : Sinking ≡ Up = e in cc)

-- how a service stands that was never taken, or that is held
pub fresh_stands : (c : Course) (events : List Event) (s : ℕ) → IsRun c events
    → (WasTaken events s → ⊥) → standing_of c events s ≡ standing_of c [] s
fresh_stands c events s run fresh = elim (story_of c events s run) [
  | inl stayed ↦ stayed.stands
  | inr (inl out) ↦ absurd (fresh (out.by, out.holder.0))
  | inr (inr back) ↦ absurd
      (fresh (back.by, done_was_taken c events back.by s back.outcome run back.at))
]

held_rising : (c : Course) (events : List Event) (w s : ℕ) → IsCourse c → IsRun c events
    → IsHeldBy events w s → Has c.raise s → standing_of c events s ≡ Rising
held_rising c events w s course run held raise =
    held_stands c events w s run held
    ∙ ap after_take (standing_first_down c s (course.rises s raise))

held_sinking : (c : Course) (events : List Event) (w s : ℕ) → IsCourse c → IsRun c events
    → IsHeldBy events w s → Has c.lower s → standing_of c events s ≡ Sinking
held_sinking c events w s course run held lower =
    held_stands c events w s run held ∙ ap after_take (standing_first_up c s (course.falls s lower))

-- what is missing is the same after an event that brings nothing up and nothing down
pub missing_kept : (c : Course) (old new : List Event) → IsCourse c
    → ((t : ℕ) → (Has c.lower t → ⊥) → (standing_of c new t ≡ Up) ↔ (standing_of c old t ≡ Up))
    → ((t : ℕ) → (Has c.raise t → ⊥) → (standing_of c new t ≡ Down) ↔ (standing_of c old t ≡ Down))
    → (s t : ℕ) → IsMissing c old s t ↔ IsMissing c new s t
missing_kept c old new course ups downs s t = (
  λ h. elim h [
    | inl rises ↦ inl (
      rises.0,
      rises.1,
      λ up. rises.2 ((ups t (needed_stays c course s t rises.0 rises.1)).0 up),
    )
    | inr falls ↦ inr (
      falls.0,
      falls.1,
      λ down. falls.2 ((downs t (λ raise. needed_stays c course t s raise falls.1 falls.0)).0 down),
    )
  ],
  λ h. elim h [
    | inl rises ↦ inl (
      rises.0,
      rises.1,
      λ up. rises.2 ((ups t (needed_stays c course s t rises.0 rises.1)).1 up),
    )
    | inr falls ↦ inr (
      falls.0,
      falls.1,
      λ down. falls.2 ((downs t (λ raise. needed_stays c course t s raise falls.1 falls.0)).1 down),
    )
  ],
)

-- an event of one service that neither brings it up nor takes it from there, unless it is to go
-- down, and the other way round
module _ (c : Course) (old new : List Event) (x : ℕ) (course : IsCourse c) (planned : IsPlanned c x)
    (elsewhere : (t : ℕ) → x ≢ t → standing_of c new t ≡ standing_of c old t)
    (rising : Has c.raise x → (standing_of c old x ≢ Up) × (standing_of c new x ≢ Up))
    (sinking : Has c.lower x → (standing_of c old x ≢ Down) × (standing_of c new x ≢ Down)) where
  ups_kept : (t : ℕ) → (Has c.lower t → ⊥) → (standing_of c new t ≡ Up) ↔ (standing_of c old t ≡ Up)
  ups_kept t not_low = elim (cases_eq x t) [
    | inl same ↦
        let raise : Has c.raise x =
        elim planned [
          | inl low ↦ absurd (not_low (subst (Has c.lower) same low))
          | inr high ↦ high
        ] in
        let none = rising raise in (
          λ up. absurd (none.1 (rw same up)),
          λ up. absurd (none.0 (rw same up)),
        )
    | inr other ↦ (λ up. sym (elsewhere t other) ∙ up, λ up. elsewhere t other ∙ up)
  ]

  downs_kept : (t : ℕ) → (Has c.raise t → ⊥)
      → (standing_of c new t ≡ Down) ↔ (standing_of c old t ≡ Down)
  downs_kept t not_high = elim (cases_eq x t) [
    | inl same ↦
        let lower : Has c.lower x =
        elim planned [
          | inl low ↦ low
          | inr high ↦ absurd (not_high (subst (Has c.raise) same high))
        ] in
        let none = sinking lower in (
          λ down. absurd (none.1 (rw same down)),
          λ down. absurd (none.0 (rw same down)),
        )
    | inr other ↦ (λ down. sym (elsewhere t other) ∙ down, λ down. elsewhere t other ∙ down)
  ]

  pub kept_by_one : (s t : ℕ) → IsMissing c old s t ↔ IsMissing c new s t
  kept_by_one = missing_kept c old new course ups_kept downs_kept

-- a take leaves what is missing
pub missing_after_take : (c : Course) (events : List Event) (w x : ℕ) → IsCourse c → IsRun c events
    → CanMove c events x → (s t : ℕ)
    → IsMissing c events s t ↔ IsMissing c (events ++ Take w x ∷ []) s t
missing_after_take c events w x course run move =
    let planned : IsPlanned c x = (move_is_left c events x move).0 in
    let first = fresh_stands c events x run (move_is_left c events x move).1 in
    kept_by_one c events (events ++ Take w x ∷ []) x course planned
    (λ t other. standing_take_other c events w x t other)
    (λ raise.
    let down : standing_of c events x ≡ Down =
    first ∙ standing_first_down c x (course.rises x raise) in
    let now : standing_of c (events ++ Take w x ∷ []) x ≡ Rising =
    standing_take_here c events w x ∙ ap after_take down in (
      λ up. (let bad : Down ≡ Up = sym down ∙ up in cc),
      λ up. (let bad : Rising ≡ Up = sym now ∙ up in cc),
    ))
    (λ lower.
    let up : standing_of c events x ≡ Up = first ∙ standing_first_up c x (course.falls x lower) in
    let now : standing_of c (events ++ Take w x ∷ []) x ≡ Sinking =
    standing_take_here c events w x ∙ ap after_take up in (
      λ down. (let bad : Up ≡ Down = sym up ∙ down in cc),
      λ down. (let bad : Sinking ≡ Down = sym now ∙ down in cc),
    ))

-- a transition that failed leaves what is missing
pub missing_after_failure : (c : Course) (events : List Event) (w x : ℕ) (o : Outcome) → IsCourse c
    → IsRun c events → IsHeldBy events w x → is_success o ≡ false → (s t : ℕ)
    → IsMissing c events s t ↔ IsMissing c (events ++ Done w x o ∷ []) s t
missing_after_failure c events w x o course run held fails =
    kept_by_one c events (events ++ Done w x o ∷ []) x course
    (taken_was_planned c events w x run held.0)
    (λ t other. standing_done_other c events w x t o other)
    (λ raise.
    let was = held_rising c events w x course run held raise in
    let now : standing_of c (events ++ Done w x o ∷ []) x ≡ Down =
    standing_done_here c events w x o ∙ (rw (fails, was) refl) in (
      λ up. (let bad : Rising ≡ Up = sym was ∙ up in cc),
      λ up. (let bad : Down ≡ Up = sym now ∙ up in cc),
    ))
    (λ lower.
    let was = held_sinking c events w x course run held lower in
    let now : standing_of c (events ++ Done w x o ∷ []) x ≡ Up =
    standing_done_here c events w x o ∙ (rw (fails, was) refl) in (
      λ down. (let bad : Sinking ≡ Down = sym was ∙ down in cc),
      λ down. (let bad : Up ≡ Down = sym now ∙ down in cc),
    ))

-- a service that has arrived is missing no more
arrived_not_missing : (c : Course) (events : List Event) (w x : ℕ) (o : Outcome) → IsCourse c
    → IsRun c events → IsHeldBy events w x → is_success o ≡ true → (s : ℕ)
    → IsMissing c (events ++ Done w x o ∷ []) s x → ⊥
arrived_not_missing c events w x o course run held well s missing =
    elim (taken_was_planned c events w x run held.0) [
      | inl lower ↦
          let now : standing_of c (events ++ Done w x o ∷ []) x ≡ Down =
          standing_done_here c events w x o
          ∙ (rw (well, held_sinking c events w x course run held lower) refl) in
          elim missing [
            | inl rises ↦ needed_stays c course s x rises.0 rises.1
                lower
            | inr falls ↦ falls.2 now
          ]
      | inr raise ↦
          let now : standing_of c (events ++ Done w x o ∷ []) x ≡ Up =
          standing_done_here c events w x o
          ∙ (rw (well, held_rising c events w x course run held raise) refl) in
          elim missing [
            | inl rises ↦ rises.2 now
            | inr falls ↦ needed_stays c course x s raise
                falls.1 falls.0
          ]
    ]

-- but was to all that waited for it, and to no others
pub next_missing : (c : Course) (events : List Event) (w x : ℕ) → IsCourse c → IsRun c events
    → IsHeldBy events w x → (s : ℕ) → IsNext c.needs c.lower c.raise x s → IsMissing c events s x
next_missing c events w x course run held s next = elim next [
  | inl falls ↦ inr (
    falls.1,
    falls.2,
    λ down.
        let bad : Sinking ≡ Down = sym (held_sinking c events w x course run held falls.0) ∙ down in
        cc,
  )
  | inr rises ↦
      let raise : Has c.raise x =
      elim (taken_was_planned c events w x run held.0) [
        | inl lower ↦ absurd (rises.0 lower)
        | inr raise ↦ raise
      ] in
      inl (
        rises.1,
        rises.2,
        λ up.
            let bad : Rising ≡ Up = sym (held_rising c events w x course run held raise) ∙ up in
            cc,
      )
]

pub missing_next : (c : Course) (events : List Event) (w x : ℕ) → IsCourse c → IsRun c events
    → IsHeldBy events w x → (s : ℕ) → IsMissing c events s x → IsNext c.needs c.lower c.raise x s
missing_next c events w x course run held s missing =
    elim (taken_was_planned c events w x run held.0) [
      | inl lower ↦ elim missing [
        | inl rises ↦ absurd (needed_stays c course s x rises.0 rises.1 lower)
        | inr falls ↦ inl (
          lower,
          falls.0,
          falls.1,
        )
      ]
      | inr raise ↦ elim missing [
        | inl rises ↦ inr (
          λ lower. course.rises x raise (course.falls x lower),
          rises.0,
          rises.1,
        )
        | inr falls ↦ absurd (needed_stays c course x s raise falls.1 falls.0)
      ]
    ]

-- what is missing after a transition that succeeded
pub missing_after_success : (c : Course) (events : List Event) (w x : ℕ) (o : Outcome) → IsCourse c
    → IsRun c events → IsHeldBy events w x → is_success o ≡ true → (s t : ℕ)
    → IsMissing c (events ++ Done w x o ∷ []) s t ↔ (IsMissing c events s t × (t ≢ x))
missing_after_success c events w x o course run held well s t = elim (cases_eq x t) [
  | inl same ↦ (
    λ h. absurd
        (arrived_not_missing c events w x o course run held well s
        (subst (IsMissing c (events ++ Done w x o ∷ []) s) (sym same) h)),
    λ h. absurd (h.1 (sym same)),
  )
  | inr other ↦
      let e = standing_done_other c events w x t o other in
      let misses : Standing → Type 0 =
      λ st. (Has c.raise s × Needs c.needs s t × (st ≢ Up))
      ⊎ (Has c.lower s × Needs c.needs t s × (st ≢ Down)) in (
        λ h. (subst misses e h, λ same. other (sym same)),
        λ h. subst misses (sym e) h.0,
      )
]
