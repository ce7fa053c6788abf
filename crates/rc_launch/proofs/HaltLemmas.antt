-- What an undo or a redo leaves that ends with status 1 or 2, step by step.
use Rattle.std.proofs.Common.{◌≡◌, ◌≢◌, ◌∙◌, ◌||◌, ℕ, suc, Bool, true, false, List, Some}
use Rattle.std.proofs.Common.{Result, Ok, Err, IfErr, IfOk, OnOk, inl, inr, refl, arith, subst}
use Rattle.std.proofs.Common.{sym}
use Rattle.std.proofs.lemmas.Bool.{or_parts}
use Rattle.std.proofs.lemmas.Result.{IfErr-weaker}
use Rattle.rc_historytext.specs.Halting.{Halts, StaysAt}
use Rattle.rc_historytext.specs.Travelling.{GoesOn, PassesTo, StepsTo}
use Rattle.rc_launch.specs.Halted.{CrossesTo, HasHalted, IsBehindRun, IsRefusedOn, StepEndsBy}
use Rattle.rc_launch.specs.Halted.{StepsBy}
use Rattle.rc_launch.specs.HeldHistory.{Leads, history_held}
use Rattle.rc_launch.specs.declared.live_store.LiveStore.{LiveStore}

-- a failure is no such end
pub not_halted : (status : ℕ) → status ≡ 111 → HasHalted status → ⊥
not_halted status failed (inl refused) = omega (arith, failed, refused)
not_halted status failed (inr hindered) = omega (arith, failed, hindered)

-- nor is what is done
pub done_not_halted : (status : ℕ) → status ≡ 0 → HasHalted status → ⊥
done_not_halted status done (inl refused) = omega (arith, done, refused)
done_not_halted status done (inr hindered) = omega (arith, done, hindered)

-- what holds of each such end holds where only failures come
pub failed_halts : {T : Type 0} (result : Result T ℕ) (Q : ℕ → Type 0)
    → IfErr result (λ code. code ≡ 111) → IfErr result (λ code. HasHalted code → Q code)
failed_halts result Q failed =
    IfErr-weaker result (λ code. code ≡ 111) (λ code. HasHalted code → Q code)
    (λ code is halted. absurd (not_halted code is halted)) failed

-- a failure is not status 0
pub failed_not_done : {T : Type 0} (result : Result T ℕ)
    → IfErr result (λ code. code ≡ 111) → IfErr result (λ code. code ≢ 0)
failed_not_done result failed =
    IfErr-weaker result (λ code. code ≡ 111) (λ code. code ≢ 0)
    (λ code is zero. omega (arith, is, zero)) failed

-- what a step leaves with such a status
pub step_stays : (status : ℕ) (on : Bool) (bytes next : List ℕ) → StepEndsBy status on bytes next
    → StaysAt on bytes next
step_stays status on bytes next (inl refused) = inl refused.1
step_stays status on bytes next (inr ended) =
    inr (record {
      base = ended.base;
      line = ended.line;
      new = ended.new;
      session = ended.session;
      there = ended.there;
      is_database = ended.is_database;
      writable = ended.writable;
      is_line = ended.is_line;
      begins = ended.begins;
      left = elim ended.left [
        | inl refused ↦ inl refused.1
        | inr hindered ↦ inr (hindered.1.0, hindered.1.1, hindered.1.2, hindered.1.3)
      ];
      kept = ended.kept;
    })

-- either step is one
pub steps_to : (runs on : Bool) (bytes next : List ℕ) → StepsBy runs on bytes next
    → StepsTo on bytes next
steps_to true on bytes next step = inl step
steps_to false on bytes next step = inr step

-- so many steps lead there, and it goes on after each of them; without a run they are borders alone
abbrev pub ComesTo : (ran : Bool) → ℕ → (on : Bool) → (bytes next : List ℕ) → Type 0
ComesTo ran n on bytes next =
    PassesTo n on bytes next × (ran ≡ false → CrossesTo n on bytes next)

-- one more step
pub comes_on : (ran runs : Bool) (n : ℕ) (on : Bool) (bytes between next : List ℕ)
    → ComesTo ran n on bytes between → StepsBy runs on between next → GoesOn on next true
    → ComesTo (ran || runs) (suc n) on bytes next
comes_on ran runs n on bytes between next comes step goes = (
  (between, comes.0, steps_to runs on between next step, goes),
  (λ none. let parts = or_parts ran runs none in (
    between,
    comes.1 parts.0,
    subst (λ (r : Bool). StepsBy r on between next) parts.1 step,
    goes,
  )),
)

-- the status behind a run halts only where that of the step did
pub halted_code : (code status : ℕ) → IsBehindRun code status → HasHalted status → HasHalted code
halted_code code status (inl refused) halted = inl refused.0
halted_code code status (inr same) halted = subst HasHalted same.1 halted

-- it is never 1
pub not_refused : (code status : ℕ) → IsBehindRun code status → status ≡ 1 → ⊥
not_refused code status (inl refused) one = omega (arith, refused.1, one)
not_refused code status (inr same) one = same.0 (sym same.1 ∙ one)

-- and 0 only where that of the step was
pub done_code : (code status : ℕ) → IsBehindRun code status → status ≡ 0 → code ≡ 0
done_code code status (inl refused) done = omega (arith, refused.1, done)
done_code code status (inr same) done = sym same.1 ∙ done

-- a border that is crossed is a step
pub crossed_step : (result : Result Bool ℕ) (P : Type 0) (Q : Bool → Type 0)
    → IfOk result (λ is_run. is_run ≡ false) → OnOk result P → (P → Q false) → IfOk result Q
crossed_step (Ok is_run) P Q none crossed then = subst Q (sym none) (then crossed)
crossed_step (Err code) P Q none crossed then = tt

-- a store that is as it was holds the history as it was, and a refusal leaves it so
pub halts_here : (old new : LiveStore) (on : Bool) → new ≡ old → Leads old new (Halts on)
halts_here old new on same was held = (
  was,
  subst (λ (store : LiveStore). history_held store ≡ Some was) (sym same) held,
  (0, was, refl, inl refl),
)

pub refused_here : (old new : LiveStore) (on : Bool) → new ≡ old
    → Leads old new (IsRefusedOn on)
refused_here old new on same was held = (
  was,
  subst (λ (store : LiveStore). history_held store ≡ Some was) (sym same) held,
  (0, was, refl, inl (refl, refl)),
)
