-- A fault that `?` hands on is the same fault.
use Rattle.std.proofs.Common.{◌≡◌, sym}
use Rattle.std.specs.Prelude.{Result, Ok, Err}
use Rattle.std.specs.Result.{IfErr, IsErrAnd, MatchResult}

pub handed : {T E : Type 0} (r : Result T E) (P : E → Type 0) (fault : E) → IsErrAnd r (λ e. e ≡ fault) → P fault → IfErr r P
handed (Ok found) P fault same holds = absurd same
handed (Err e) P fault same holds = rw (sym same) at holds

pub matched : {T E : Type 0} (r : Result T E) (Q : T → Type 0) (P : E → Type 0) (fault : E) → IsErrAnd r (λ e. e ≡ fault) → P fault → MatchResult r Q P
matched (Ok found) Q P fault same holds = absurd same
matched (Err e) Q P fault same holds = rw (sym same) at holds
