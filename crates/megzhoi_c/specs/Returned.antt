-- What a call of the library returns as four numbers (SPECIFICATION 15.1): code, file mark, p and q for each case of
-- each answer. Code 0 is success, with file mark 0.
use Rattle.std.specs.Prelude.{◌≡◌, Bool, cond, List, ℕ, Result, Ok, Err, ⊤}
use Rattle.refusals.specs.declared.Refusal.{Refusal}
use Rattle.refusals.specs.declared.File.TheVariants.{None}
use Rattle.refusals.specs.Refusals.{mark, code, file, p, q}
use Rattle.megzhoi_c.specs.declared.Returned.{Returned}
use Rattle.reader_record.specs.declared.Text.{Text}
use Rattle.reader_numbers.specs.Numbers.{put_at, numbers}
use Rattle.safe_states.specs.declared.SafeStates.{SafeStates}
use Rattle.tables_widest.specs.declared.WidestTable.{WidestTable}

-- the four numbers of a call
abbrev pub four : ℕ → ℕ → ℕ → ℕ → Returned
four code file p q = record { code = code; file = file; p = p; q = q }

-- success, with the two numbers that the call gives: a code that no refusal has, and no file
abbrev pub success : ℕ → ℕ → Returned
success p q = four 0 (mark None) p q

-- a refusal's own numbers
abbrev pub refused : Refusal → Returned
refused f = four (code f) (mark (file f)) (p f) (q f)

-- 1 for true and 0 for false
abbrev pub as_number : Bool → ℕ
as_number b = cond b 1 0

-- the two numbers that a call gives, or a refusal
unfoldable pub of_numbers : Result (ℕ × ℕ) Refusal → Returned
of_numbers (Ok n) = success n.0 n.1
of_numbers (Err f) = refused f

-- the two numbers of an answer's value
abbrev pub with_numbers : {A : Type 0} → (A → ℕ × ℕ) → Result A Refusal → Result (ℕ × ℕ) Refusal
with_numbers numbers (Ok x) = Ok (numbers x)
with_numbers numbers (Err f) = Err f

-- reading, whose p is the number of states, and the implementation check, whose p is 0
abbrev pub of_verdict : Result ⊤ Refusal → ℕ → Returned
of_verdict a p = of_numbers (with_numbers (λ done. (p, 0)) a)

-- the record of a text that was read, written as far as the slice goes; a refusal leaves the slice as it came
unfoldable pub recorded : Result ⊤ Refusal → Text → ℕ → List ℕ → List ℕ
recorded (Ok done) t states before = put_at before 0 (numbers t states)
recorded (Err f) t states before = before

-- the safe states: their count, and whether the start is one
abbrev pub of_safe : Result SafeStates Refusal → Returned
of_safe a = of_numbers (with_numbers (λ found. (found.count, as_number found.start)) a)

-- the search: n
abbrev pub of_search : Result ℕ Refusal → Returned
of_search a = of_numbers (with_numbers (λ n. (n, 0)) a)

-- the check: the number of pairs set
abbrev pub of_check : Result ℕ Refusal → Returned
of_check a = of_numbers (with_numbers (λ count. (count, 0)) a)

-- the widest table: the number of its pairs, and whether the start pair is one
abbrev pub of_widest : Result WidestTable Refusal → Returned
of_widest a = of_numbers (with_numbers (λ made. (made.count, as_number made.start)) a)

-- the joining: the length of the text
abbrev pub of_join : Result ℕ Refusal → Returned
of_join a = of_numbers (with_numbers (λ n. (n, 0)) a)

-- the code that a call returns is not that of this refusal, whatever number it carries
abbrev pub ReturnsNo : (ℕ → Refusal) → Returned → Type 0
ReturnsNo kind r = (n : ℕ) → r.code ≡ code (kind n) → ⊥
