-- Runs in turn are runs.
use Rattle.std.proofs.Common.{ℕ, List, inl, inr, take}
use Rattle.rc_model.specs.declared.Event.{Event}
use Rattle.rc_model.specs.declared.Event.TheVariants.{Take, Done, Stop}
use Rattle.rc_model.specs.Run.{Course, NoneHeld, IsLegal, IsRun, IsSettled}
use Rattle.rc_core.specs.InTurn.{IsLowered, IsInTurn, IsSettledInTurn}
use Rattle.rc_core.proofs.Ends.{never_sinking}
use Rattle.rc_core.proofs.Stories.{at_rest}

-- an event in turn is legal
in_turn_legal : (c : Course) (events : List Event) (e : Event)
    → IsInTurn c events e → IsLegal c events e
in_turn_legal c events (Take w s) turn = (
  turn.0,
  turn.1,
  turn.2,
  elim turn.3 [ inl sinks ↦ inl sinks | inr rises ↦ inr rises.0 ],
)
in_turn_legal c events (Done w s o) turn = turn
in_turn_legal c events (Stop w m) turn = turn

-- a run in turn is a run
run_in_turn : (c : Course) (events : List Event) → IsSettledInTurn c events → IsRun c events
run_in_turn c events turn k event at =
    in_turn_legal c (take k events) event (turn.run k event at)

-- where nothing is held, and a worker that is free can take nothing in turn, lowering is settled
lowered : (c : Course) (events : List Event) (w s : ℕ) → IsRun c events → NoneHeld events
    → IsLegal c events (Take w s) → ((t : ℕ) → IsInTurn c events (Take w t) → ⊥)
    → IsLowered c events
lowered c events w s run none_held legal none = record {
  none_sinking = λ t. never_sinking c events t (at_rest c events run none_held t);
  none_left = λ t sinks. none t (legal.0, legal.1, legal.2, inl sinks);
}

-- so what might be taken might be taken in turn
pub settled_in_turn : (c : Course) (events : List Event)
    → IsSettledInTurn c events → IsSettled c events
settled_in_turn c events turn =
    let run = run_in_turn c events turn in
    record {
      run = run;
      none_held = turn.none_held;
      ended = elim turn.ended [
        | inl stopped ↦ inl stopped
        | inr none ↦ inr (λ w s legal. elim legal.3 [
          | inl sinks ↦ none w s (legal.0, legal.1, legal.2, inl sinks)
          | inr rises ↦
              let settled = lowered c events w s run turn.none_held legal (none w) in
              none w s (legal.0, legal.1, legal.2, inr (rises, settled))
        ])
      ];
    }
