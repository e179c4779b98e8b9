-- A fault that is handed on from another call: what holds of it holds of the answer.
use Rattle.std.proofs.Common.{◌≡◌, sym, subst}
use Rattle.std.specs.Prelude.{Result, Ok, Err, IfErr, IsErrAnd}

pub handed_on : {T F : Type 0} (result : Result T F) (cause : F) (P : Result T F → Type 0) → IsErrAnd result (λ fault. fault ≡ cause) → P (Err cause) → P result
handed_on (Ok value) cause P is holds = absurd is
handed_on (Err fault) cause P is holds = subst (λ (it : _). P (Err it)) (sym is) holds

pub fault_handed_on : {T F : Type 0} (result : Result T F) (cause : F) (P : F → Type 0) → IsErrAnd result (λ fault. fault ≡ cause) → P cause → IfErr result P
fault_handed_on result cause P is holds = handed_on result cause (λ answer. IfErr answer P) is holds
