-- Slices are long enough where an operation refuses nothing.
use Rattle.std.specs.Prelude.{◌≡◌, ℕ, Result, Ok, Err}
use Rattle.std.proofs.Common.{sym, ◌∙◌, arith}
use Rattle.refusals.specs.declared.Refusal.{Refusal}
use Rattle.refusals.specs.Refusals.{keep_too_short, table_too_short, queue_too_short, run_too_short}
use Rattle.demands.specs.Words.{LongEnough}

no_err : {A : Type 0} (a : A) (r : Refusal) → ◌≡◌ {A = Result A Refusal} (Ok a) (Err r) → ⊥
no_err a r e = let z : ◌≡◌ {A = ℕ} 0 1 = cc in absurd (omega arith)

pub no_refusal : {A : Type 0} (answer : Result A Refusal) (a : A) → answer ≡ Ok a → LongEnough answer
no_refusal answer a e = record {
  keep = λ n q. no_err a (keep_too_short n) (sym e ∙ q);
  table = λ n q. no_err a (table_too_short n) (sym e ∙ q);
  queue = λ n q. no_err a (queue_too_short n) (sym e ∙ q);
  run = λ n q. no_err a (run_too_short n) (sym e ∙ q);
}
