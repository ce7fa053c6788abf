-- What holds of a write holds where its end was noted.
use Rattle.std.proofs.Common.{Result, Ok, Err, IsErr, IsOk, OnErr, OnOk}
use Rattle.std.proofs.lemmas.Bool.{false≢true}

pub noted_ok : {V W E F : Type 0} (noted : Result V E) (put : Result W F) (P : Type 0)
    → OnOk noted (IsOk put) → OnOk put P → OnOk noted P
noted_ok (Ok v) (Ok w) P is h = h
noted_ok (Ok v) (Err e) P is h = absurd (false≢true is)
noted_ok (Err e) put P is h = tt

pub noted_err : {V W E F : Type 0} (noted : Result V E) (put : Result W F) (P : Type 0)
    → OnErr noted (IsErr put) → OnErr put P → OnErr noted P
noted_err (Err e) (Err f) P is h = h
noted_err (Err e) (Ok w) P is h = absurd (false≢true is)
noted_err (Ok v) put P is h = tt
