-- What was read before a fault, which some stages give beside it: what is missing is as where nothing is read.
use Rattle.std.specs.Prelude.{List, ℕ, Result, Ok, Err}
use Rattle.reader_record.specs.Record.{no_name}
use Rattle.reader_record.specs.declared.Name.{Name}
use Rattle.reader_parts.specs.declared.Fault.{Fault}
use Rattle.reader_parts.specs.declared.Stopped.{Stopped}
use Rattle.reader_parts.specs.Stages.{◌>>=◌, name_next}

-- what a stage answers, with what was read before its fault beside it
abbrev pub beside : {A B : Type 0} → B → Result A Fault → Result A (Stopped B)
beside b (Ok x) = Ok x
beside b (Err f) = Err (record { fault = f; read = b })

-- the answer with the fault alone
abbrev pub alone : {A B : Type 0} → Result A (Stopped B) → Result A Fault
alone (Ok x) = Ok x
alone (Err e) = Err e.fault

-- a part of what a stage read; of a stage with a fault it is b
abbrev pub read_or : {A B : Type 0} → (A → B) → Result A Fault → B → B
read_or part (Ok x) b = part x
read_or part (Err f) b = b

-- the name that a declaration has come to
unfoldable pub name_so_far : List ℕ → Result ℕ Fault → Name
name_so_far s at = read_or (λ r. r.name) (at >>= name_next s) no_name
