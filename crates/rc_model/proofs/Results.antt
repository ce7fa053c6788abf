-- A result that is an error has no value.
use Rattle.std.proofs.Common.{◌≡◌, Result, Ok, Err}
use Rattle.std.specs.Result.{IfOk, IsErrAnd}

pub no_value : {T E : Type 0} (r : Result T E) (fault : E) (P : T → Type 0)
    → IsErrAnd r (λ e. e ≡ fault) → IfOk r P
no_value (Ok x) fault P is = absurd is
no_value (Err e) fault P is = tt
