-- A change that moves nothing is always done.
use Rattle.std.proofs.Common.{◌≡◌, ◌↔◌, ◌⊎◌, inl, inr, ℕ, zero, suc, Bool, true, false}
use Rattle.std.proofs.Common.{Contains}
use Rattle.std.proofs.Common.{List, [], None, length, replicate, refl, sym}
use Rattle.std.proofs.Common.{ap, arith, slice_index_or, if◌then◌else◌}
use Rattle.std.proofs.lemmas.Bool.{true≢false}
use Rattle.std.proofs.lemmas.List.Elements.{All-nil}
use Rattle.rc_model.specs.declared.Event.{Event}
use Rattle.rc_model.specs.declared.Event.TheVariants.{Done, Stop, Take}
use Rattle.rc_model.specs.declared.Mode.TheVariants.{DownAll}
use Rattle.rc_model.specs.declared.Standing.TheVariants.{Down, Sinking, Up}
use Rattle.rc_model.specs.Database.{Database, IsKnown}
use Rattle.rc_model.specs.Line.{IsGained, Line, Lists}
use Rattle.rc_model.specs.Names.{Has}
use Rattle.rc_model.specs.Plan.{Ask, IsPlanOf, IsWanted, PlanSets, TargetOfAsk}
use Rattle.rc_model.specs.Run.{CanMove, Course, HasFailed, IsLeft, IsPlanned}
use Rattle.rc_model.specs.Run.{IsStopped, course_of}
use Rattle.rc_model.specs.Session.{Change, Does, EndsWith, edit_report}
use Rattle.rc_model.proofs.RunLemmas.{run_empty}
use Rattle.rc_core.proofs.Opening.{none_happened}
use Rattle.rc_session.proofs.Beginning.{nothing_live}
use Rattle.rc_model.proofs.Telling.{lists_none}

-- to lower nothing
abbrev pub still_ask : Ask
still_ask = record { mode = DownAll; prune = false; all = false; words = []; limit = 0 }

none_long : (n : ℕ) → length (replicate n false) ≡ n
none_long zero = refl
none_long (suc n) = ap suc (none_long n)

abbrev still_plan : List Bool → PlanSets
still_plan live = record {
  opening = live;
  lower = replicate (length live) false;
  raise = replicate (length live) false;
  kept = replicate (length live) false;
}

-- what is live stays so
standing_first : (up : Bool) → (up ≡ true)
    ↔ (((if up then Up else Down) ≡ Up) ⊎ ((if up then Up else Down) ≡ Sinking))
standing_first true = (λ is. inl refl, λ is. refl)
standing_first false = (
  λ is. absurd (true≢false (sym is)),
  λ is. elim is [
    | inl bad ↦ (let wrong : Down ≡ Up = bad in cc)
    | inr bad ↦ (let wrong : Down ≡ Sinking = bad in cc)
  ],
)

module _ (d : Database) (line : Line) where
  abbrev count : ℕ
  count = length line.current.live

  abbrev c : Course
  c = course_of d.needs (still_plan line.current.live) None

  none_wanted : (s : ℕ)
      → IsWanted d.names line.current.table (Has line.current.live) still_ask s → ⊥
  none_wanted s (inl (word, at, stands)) = absurd (omega (arith, at.1))
  none_wanted s (inr (bad, up)) = true≢false (sym bad)

  stays : (s : ℕ) → Has line.current.live s
      → TargetOfAsk d line.current.table line.current.live still_ask s
  stays s up = (
    up,
    λ goes. elim goes [
      | inl wanted ↦ none_wanted s wanted
      | inr (t, wanted, reaches) ↦ none_wanted t wanted
    ],
  )

  plan_is : IsPlanOf d line.current.table line.current.live still_ask (still_plan line.current.live)
  plan_is = record {
    opening = refl;
    lower = λ s. (
      λ has. absurd (nothing_live count s has),
      λ goes. absurd (goes.1 (stays s goes.0)),
    );
    raise = λ s. (
      λ has. absurd (nothing_live count s has),
      λ comes. absurd (comes.1 comes.0.0),
    );
    kept = λ s. (λ has. absurd (nothing_live count s has), λ kept. absurd kept);
    lower_bound = none_long count;
    raise_bound = none_long count;
    kept_bound = none_long count;
  }

  none_planned : (s : ℕ) → IsPlanned c s → ⊥
  none_planned s (inl lower) = nothing_live count s lower
  none_planned s (inr raise) = nothing_live count s raise

  none_moves : (s : ℕ) → CanMove c [] s → ⊥
  none_moves s (inl sinks) = nothing_live count s sinks.planned
  none_moves s (inr rises) = nothing_live count s rises.planned

  ends : EndsWith c [] line.current.live
  ends = record {
    settled = record {
      run = run_empty c;
      none_held = λ w s held. none_happened (Take w s) held.0;
      ended = inr (λ w s legal. none_moves s legal.3);
    };
    bound = refl;
    members = λ s. standing_first (slice_index_or line.current.live s false);
  }

  not_gained : (s : ℕ) → IsGained line.current.live line.current.live s → ⊥
  not_gained s gained = gained.1 gained.0

  -- whatever the line
  pub still : Does d line (Change still_ask []) (edit_report line.current.live) line
  still = inl (record {
    plan = still_plan line.current.live;
    deadline = None;
    live = line.current.live;
    task = (
      record {
        prunes = λ wrongly. true≢false (sym wrongly.0);
        known = All-nil (IsKnown d.names line.current.table);
      },
      plan_is,
      refl,
    );
    ends = ends;
    moved = inl (refl, refl);
    is_report = record {
      opening = refl;
      lowered = lists_none (IsGained line.current.live line.current.live) not_gained;
      raised = lists_none (IsGained line.current.live line.current.live) not_gained;
      failed =
          lists_none (HasFailed []) (λ s failed. none_happened (Done failed.0 s failed.1) failed.2);
      blocked =
          lists_none (λ s. IsLeft c [] s × (IsStopped [] → ⊥)) (λ s left. none_planned s left.0.0);
      untried = lists_none (λ s. IsLeft c [] s × IsStopped []) (λ s left. none_planned s left.0.0);
      kept = lists_none (Has (replicate count false)) (nothing_live count);
      stopped = (
        λ bad. absurd (true≢false (sym bad)),
        λ stopped. absurd (none_happened (Stop stopped.0 stopped.1) stopped.2),
      );
      trace = refl;
    };
  })
