-- What is left of a tree after a call that succeeded and what follows it.
use Rattle.std.proofs.Common.{◌≡◌, ◌≢◌, ◌∙◌, ℕ, ◌≤◌, Option, Result, Ok, Err, subst, arith}
use Rattle.std.specs.Result.{IfErr, OnOk, IsErrAnd}
use Rattle.rc_source.specs.Tree.{Source}
use Rattle.rc_source.specs.TreeFaults.{HasFailed}
use Rattle.rc_source.specs.declared.fault.Flaw.{Flaw}
use Rattle.rc_source.specs.declared.fault.Flaw.TheVariants.{Io, Memory}
use Rattle.rc_source.specs.Asked.{IsAsked}
use Rattle.rc_source.proofs.Exits.{exit, no_success}

-- a refusal that is told on
pub asked_on : {X Y : Type 0} (r : Result Y Flaw) (told : Flaw) (held after : Option Source)
    (failed now : ℕ) → IsErrAnd r (λ e. e ≡ told) → IsAsked {X = X} (Err told) held after failed now
    → IsAsked r held after failed now
asked_on r told held after failed now is asked = record {
  io = exit r told (λ flaw. flaw ≡ Io → HasFailed failed now) is asked.io;
  same = asked.same;
  count = asked.count;
  quiet = no_success r told (now ≡ failed) is;
}

-- one more call
pub asked_then : {Y : Type 0} (r : Result Y Flaw) (held mid after : Option Source)
    (failed then now : ℕ) → mid ≡ held → then ≡ failed → IsAsked r mid after then now
    → IsAsked r held after failed now
asked_then r held mid after failed then now same quiet asked = record {
  io = subst (λ f. IfErr r (λ flaw. flaw ≡ Io → HasFailed f now)) quiet asked.io;
  same = asked.same ∙ same;
  count = subst (λ f. f ≤ now) quiet asked.count;
  quiet = subst (λ f. OnOk r (now ≡ f)) quiet asked.quiet;
}

-- a value that is given back
pub asked_ok : {Y : Type 0} (y : Y) (held after : Option Source) (failed now : ℕ) → after ≡ held
    → now ≡ failed → IsAsked (Ok y) held after failed now
asked_ok y held after failed now same quiet =
    record { io = tt; same = same; count = omega arith; quiet = quiet }

io_alone : {Y : Type 0} (r : Result Y Flaw) (failed now : ℕ) → IfErr r (λ flaw. flaw ≢ Io)
    → IfErr r (λ flaw. flaw ≡ Io → HasFailed failed now)
io_alone (Ok y) failed now other = tt
io_alone (Err flaw) failed now other = λ io. absurd (other io)

on_each : {Y : Type 0} (r : Result Y Flaw) (P : Type 0) → P → OnOk r P
on_each (Ok y) P p = p
on_each (Err flaw) P p = tt

-- a flaw of what was read, or none
pub asked_read : {Y : Type 0} (r : Result Y Flaw) (held after : Option Source) (failed now : ℕ)
    → IfErr r (λ flaw. flaw ≢ Io) → after ≡ held → now ≡ failed → IsAsked r held after failed now
asked_read r held after failed now other same quiet = record {
  io = io_alone r failed now other;
  same = same;
  count = omega arith;
  quiet = on_each r (now ≡ failed) quiet;
}

-- out of memory
pub asked_memory : {Y : Type 0} (r : Result Y Flaw) (held after : Option Source) (failed now : ℕ)
    → IsErrAnd r (λ e. e ≡ Memory) → after ≡ held → now ≡ failed → IsAsked r held after failed now
asked_memory r held after failed now is same quiet =
    asked_read r held after failed now (exit r Memory (λ flaw. flaw ≢ Io) is (λ io. cc)) same quiet
