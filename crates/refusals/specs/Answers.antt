-- The answer of an operation that gives a value with its Ok: accepted, or the refusal (SPECIFICATION 13.1).
use Rattle.std.specs.Prelude.{Result, Ok, Err, ⊤}
use Rattle.refusals.specs.declared.Refusal.{Refusal}

-- the same answer without the value of its Ok
abbrev pub answer_of : {A : Type 0} → Result A Refusal → Result ⊤ Refusal
answer_of (Ok _) = Ok tt
answer_of (Err r) = Err r
