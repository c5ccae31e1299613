-- What holds of the error of a call holds where `?` hands it on.
use Rattle.std.proofs.Common.{◌≡◌, refl, subst, sym}
use Rattle.std.specs.Prelude.{Result, Ok, Err, IfErr}
use Rattle.std.specs.Result.{IsErrAnd}

-- the error is handed on as it is
pub at_exit : {T E : Type 0} (P : E → Type 0) (r : Result T E) {e : E} → IsErrAnd r (λ y. y ≡ e) → P e → IfErr r P
at_exit P (Ok x) handed holds = absurd handed
at_exit P (Err y) handed holds = subst P (sym handed) holds
