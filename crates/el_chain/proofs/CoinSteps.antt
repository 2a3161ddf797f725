-- Steps over inputs, outputs and transactions, by what each leaves of the coins.
use Rattle.std.proofs.Common.{◌≡◌, Result, Err}
use Rattle.std.specs.Result.{IfErr}

-- an error that is passed on
pub err_passed : {T E : Type 0} (r : Result T E) (P : E → Type 0) (x : E) → ((y : E) × (r ≡ Err y) × (y ≡ x)) → P x → IfErr r P
err_passed r P x passed p = rw (passed.1, passed.2) p
