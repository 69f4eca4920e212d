-- Laws of stages one after another.
use Rattle.std.specs.Prelude.{◌≡◌, Result, Ok, Err, IfOk, IsErrAnd}
use Rattle.std.proofs.Common.{sym, ap, subst, refl}
use Rattle.reader_parts.specs.declared.Fault.{Fault}
use Rattle.reader_parts.specs.declared.Stopped.{Stopped}
use Rattle.reader_parts.specs.Stages.{◌>>=◌}
use Rattle.reader_parts.specs.SoFar.{beside}

-- what holds of what both stages read
pub and_then :
    {A B : Type 0} (r : Result A Fault) (f : A → Result B Fault) (P : A → Type 0) (Q : B → Type 0)
    → IfOk r P → ((x : A) → P x → IfOk (f x) Q) → IfOk (r >>= f) Q
and_then (Ok x) f P Q h k = k x h
and_then (Err e) f P Q h k = tt

-- what holds of the second whatever the first read
pub after : {A B : Type 0} (r : Result A Fault) (f : A → Result B Fault) (Q : B → Type 0)
    → ((x : A) → IfOk (f x) Q) → IfOk (r >>= f) Q
after (Ok x) f Q k = k x
after (Err e) f Q k = tt

-- what holds if a stage gave no fault, holds of what it gave
pub of_ok : {A : Type 0} {r : Result A Fault} {a : A} (P : A → Type 0) → IfOk r P → Ok a ≡ r → P a
of_ok P h e = subst (λ x. IfOk x P) (sym e) h

-- a result that has to be this fault, and no other
pub err_is : {A E : Type 0} (r : Result A E) {e : E} → IsErrAnd r (λ d. d ≡ e) → r ≡ Err e
err_is (Ok x) h = absurd h
err_is (Err d) h = ap Err h

-- three stages, however they are put together
pub bind_of : {A B C : Type 0} (r : Result A Fault) (f : A → Result B Fault) (g : B → Result C Fault)
    → (r >>= f >>= g) ≡ (r >>= λ x. f x >>= g)
bind_of (Ok x) f g = refl
bind_of (Err e) f g = refl

-- where two stages gave no fault, the first gave none
pub bind_ok : {A B : Type 0} (r : Result A Fault) (f : A → Result B Fault) {b : B}
    → (r >>= f) ≡ Ok b → (a : A) × (r ≡ Ok a) × (f a ≡ Ok b)
bind_ok (Ok x) f e = (x, refl, e)
bind_ok (Err d) f e = cc

-- what stands beside a fault leaves what is read
pub beside_ok : {A B : Type 0} (b : B) (r : Result A Fault) {a : A} → Ok a ≡ beside b r → r ≡ Ok a
beside_ok b (Ok x) e = cc
beside_ok b (Err f) e = cc

-- and the fault
pub beside_err : {A B : Type 0} (b : B) (r : Result A Fault) {e : Stopped B} → Err e ≡ beside b r
    → (r ≡ Err e.fault) × (b ≡ e.read)
beside_err b (Ok x) h = cc
beside_err b (Err f) {e} h =
    let q : e ≡ record { fault = f; read = b } = cc in
    (rw q refl, rw q refl)
