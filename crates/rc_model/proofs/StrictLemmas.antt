-- From a closed opening, every run has at each moment all that its live services need.
use Rattle.std.proofs.Common.{◌≡◌, ℕ, List, [], ◌∷◌, ◌++◌, take, inl, inr, ap, ◌∙◌, sym, subst}
use Rattle.std.proofs.lemmas.Bool.{cases_eq}
use Rattle.rc_model.specs.Names.{Has}
use Rattle.rc_model.proofs.SetMembers.{has_or_lacks}
use Rattle.rc_model.specs.Graph.{Needs, IsClosed}
use Rattle.rc_model.specs.declared.Standing.{Standing}
use Rattle.rc_model.specs.declared.Standing.TheVariants.{Down, Up, Sinking}
use Rattle.rc_model.specs.declared.Outcome.{Outcome}
use Rattle.rc_model.specs.declared.Event.{Event}
use Rattle.rc_model.specs.declared.Event.TheVariants.{Take, Done, Stop}
use Rattle.rc_model.specs.Run.{Course, is_success, after_end, standing_of, CanSink, CanRise}
use Rattle.rc_model.specs.Run.{IsLegal, IsRun, IsStrictlyClosed, IsLive}
use Rattle.rc_model.proofs.RunLemmas.{run_prefix, run_induction}
use Rattle.rc_model.proofs.StandingLemmas.{standing_take_other, standing_done_here}
use Rattle.rc_model.proofs.StandingLemmas.{standing_done_other, standing_stop, standing_first_up}
use Rattle.rc_model.proofs.StandingLemmas.{standing_first_down, ended_up, ended_down}

-- at first
pub strict_first : (c : Course) → IsClosed c.needs (Has c.up) → IsStrictlyClosed c []
strict_first c closed s t needed moves = elim (has_or_lacks c.up s) [
  | inl has ↦ standing_first_up c t (closed s t has needed)
  | inr lacks ↦ absurd (moves (standing_first_down c s lacks))
]

-- a service that is up goes down, and none that needs it is up
pub strict_sink : (c : Course) (events : List Event) (w x : ℕ) → IsStrictlyClosed c events
    → CanSink c events x → IsStrictlyClosed c (events ++ Take w x ∷ [])
strict_sink c events w x strict sinks s t needed moves = elim (cases_eq x s) [
  | inl own ↦ let s_up : standing_of c events s ≡ Up = rw own at sinks.up in
      elim (cases_eq x t) [
        | inl itself ↦
            let s_down : standing_of c events s ≡ Down =
            sinks.needed_by_none s (subst (λ (y : ℕ). Needs c.needs s y) (sym itself) needed) in
            let bad : Up ≡ Down = sym s_up ∙ s_down in cc
        | inr apart ↦
            standing_take_other c events w x t apart
            ∙ strict s t needed (λ down. let bad : Up ≡ Down = sym s_up ∙ down in cc)
      ]
  | inr other ↦
      let s_same : standing_of c (events ++ Take w x ∷ []) s ≡ standing_of c events s =
      standing_take_other c events w x s other in
      elim (cases_eq x t) [
        | inl needs_it ↦
            absurd
            (moves (s_same
            ∙ sinks.needed_by_none s (subst (λ (y : ℕ). Needs c.needs s y) (sym needs_it) needed)))
        | inr apart ↦
            standing_take_other c events w x t apart
            ∙ strict s t needed (λ down. moves (s_same ∙ down))
      ]
]

-- a service that is down comes up, and all that it needs is up
pub strict_rise : (c : Course) (events : List Event) (w x : ℕ) → IsStrictlyClosed c events
    → CanRise c events x → IsStrictlyClosed c (events ++ Take w x ∷ [])
strict_rise c events w x strict rises s t needed moves = elim (cases_eq x t) [
  | inl needs_it ↦ let t_down : standing_of c events t ≡ Down = rw needs_it at rises.down in
      let t_up : standing_of c events t ≡ Up = up in
      let bad : Up ≡ Down = sym t_up ∙ t_down in cc
  | inr apart ↦ standing_take_other c events w x t apart ∙ up
]
  where
    up : standing_of c events t ≡ Up
    up = elim (cases_eq x s) [
      | inl own ↦ rises.needs_up t (subst (λ (y : ℕ). Needs c.needs y t) (sym own) needed)
      | inr other ↦
          strict s t needed (λ down. moves (standing_take_other c events w x s other ∙ down))
    ]

-- the end of a transition leaves what is down and what is up
pub strict_done : (c : Course) (events : List Event) (w x : ℕ) (o : Outcome)
    → IsStrictlyClosed c events → IsStrictlyClosed c (events ++ Done w x o ∷ [])
strict_done c events w x o strict s t needed moves =
    still t Up (ended_up (is_success o))
    (strict s t needed (λ down. moves (still s Down (ended_down (is_success o)) down)))
  where
    still : (r : ℕ) (standing : Standing) → after_end (is_success o) standing ≡ standing
        → standing_of c events r ≡ standing → standing_of c (events ++ Done w x o ∷ []) r ≡ standing
    still r standing stays was = elim (cases_eq x r) [
      | inl own ↦
          subst (λ (y : ℕ). standing_of c (events ++ Done w y o ∷ []) r ≡ standing) (sym own)
          (standing_done_here c events w r o ∙ ap (λ y. after_end (is_success o) y) was ∙ stays)
      | inr other ↦ standing_done_other c events w x r o other ∙ was
    ]

-- a legal event keeps a list of events strictly closed
pub strict_step : (c : Course) (events : List Event) (e : Event) → IsStrictlyClosed c events
    → IsLegal c events e → IsStrictlyClosed c (events ++ e ∷ [])
strict_step c events (Take w x) strict legal = elim legal.3 [
  | inl sinks ↦ strict_sink c events w x strict sinks
  | inr rises ↦ strict_rise c events w x strict rises
]
strict_step c events (Done w x o) strict legal = strict_done c events w x o strict
strict_step c events (Stop w m) strict legal = λ s t needed moves. standing_stop c events w m t
    ∙ strict s t needed (λ down. moves (standing_stop c events w m s ∙ down))

-- every run from a closed opening is strictly closed
pub strict_of : (c : Course) (events : List Event) → IsClosed c.needs (Has c.up) → IsRun c events
    → IsStrictlyClosed c events
strict_of c events closed run =
    run_induction c (IsStrictlyClosed c) (strict_first c closed)
    (λ earlier e before strict legal. strict_step c earlier e strict legal) events run

-- and so it is at each moment
pub prefix_strict : (c : Course) (events : List Event) (k : ℕ) → IsClosed c.needs (Has c.up)
    → IsRun c events → IsStrictlyClosed c (take k events)
prefix_strict c events k closed run = strict_of c (take k events) closed (run_prefix c events k run)

-- what a live service needs is live
pub live_closed : (c : Course) (events : List Event) → IsStrictlyClosed c events
    → IsClosed c.needs (IsLive c events)
live_closed c events strict s t live needed = inl (strict s t needed (λ down. elim live [
  | inl up ↦ let bad : Up ≡ Down = sym up ∙ down in cc
  | inr sinking ↦ let bad : Sinking ≡ Down = sym sinking ∙ down in cc
]))
