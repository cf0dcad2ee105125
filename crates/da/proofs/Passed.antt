-- The Rust's `?`: what it returns is the give-up that it was given.
use mathlib.Core.Path.{◌≡◌, ap}
use Rattle.std.specs.Prelude.{Result, Ok, Err}
use Rattle.std.specs.Result.{IsErrAnd}

pub passed_on : {T E : Type 0} (r : Result T E) (stop : E) → IsErrAnd r (λ e. e ≡ stop) → r ≡ Err stop
passed_on (Ok out) stop h = absurd h
passed_on (Err e) stop h = ap Err h
