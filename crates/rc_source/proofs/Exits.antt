-- The exit of a `?`.
use Rattle.std.proofs.Common.{◌≡◌, ◌≢◌, Result, Ok, Err, refl, sym, subst}
use Rattle.std.specs.Result.{IfErr, OnOk, IsErrAnd}
use Rattle.rc_source.specs.declared.fault.Flaw.{Flaw}
use Rattle.rc_source.specs.declared.fault.Flaw.TheVariants.{Memory}

-- the error that a callee told is told on
pub exit : {T E : Type 0} (r : Result T E) (told : E) (P : E → Type 0) → IsErrAnd r (λ e. e ≡ told)
    → P told → IfErr r P
exit (Ok x) told P h p = tt
exit (Err e) told P h p = subst P (sym h) p

-- what is promised of a success is not of an error
pub no_success : {T E : Type 0} (r : Result T E) (told : E) (P : Type 0)
    → IsErrAnd r (λ e. e ≡ told) → OnOk r P
no_success (Ok x) told P h = absurd h
no_success (Err e) told P h = tt

-- out of memory is no flaw that says more
pub exit_memory : {T : Type 0} (r : Result T Flaw) (P : Flaw → Type 0)
    → IsErrAnd r (λ e. e ≡ Memory) → IfErr r (λ flaw. flaw ≢ Memory → P flaw)
exit_memory r P h = exit r Memory (λ flaw. flaw ≢ Memory → P flaw) h (λ other. absurd (other refl))

-- what follows from the flaw that a call told
pub if_err_weaker : {T : Type 0} (r : Result T Flaw) (P Q : Flaw → Type 0)
    → ((flaw : Flaw) → P flaw → Q flaw) → IfErr r P → IfErr r Q
if_err_weaker (Ok x) P Q f h = tt
if_err_weaker (Err e) P Q f h = f e h
