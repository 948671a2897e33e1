-- What is said of a value holds of an error.
use Rattle.std.proofs.Common.{Result, Ok, Err}
use Rattle.std.specs.Result.{IsErrAnd, OnOk}

pub on_err : {T E : Type 0} (Q : E → Type 0) (X : Type 0) (r : Result T E) → IsErrAnd r Q → OnOk r X
on_err Q X (Ok x) h = absurd h
on_err Q X (Err y) h = tt
