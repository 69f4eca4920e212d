-- Laws of what is printed: each answer of an operation, with the slices that the programs lend, gives its lines.
use Rattle.std.specs.Prelude.{Result, Ok, Err, ⊤}
use mathlib.Core.Path.{◌≡◌, ap, ◌∙◌}
use mathlib.Core.List.{List}
use Prim.Native.Nat.{ℕ, ◌≤◌}
use lib.ListN.{length}
use borrow.Author.Tests.{eq-eqb, ne_eqb}
use Rattle.limits.specs.Limits.{keep_limit}
use Rattle.refusals.specs.declared.Refusal.{Refusal}
use Rattle.clocks_read.specs.Reading.{read_outcome, text_in}
use Rattle.implementation_check.specs.Outcome.{implementation_outcome}
use Rattle.search.specs.Outcome.{Outcome}
use Rattle.tables_widest.specs.declared.WidestTable.{WidestTable}
use Rattle.tables.specs.Outcome.{Checked, Widened}
use Rattle.two_operations.specs.Outcome.{search_outcome, check_outcome, widest_outcome}
use Rattle.printed_lines.specs.Lines.{refusal_line, yes_line, passed_line, accepted_line, departure_lines}
use Rattle.printed.specs.Prints.{program_tick, zeros, entries, counted_bytes, widest_line, search_lines, megzhoi_prints, check_line, recheck_prints, verdict_line, implementation_prints}

module _ (left right : List ℕ) where
  -- the check
  pub recheck_line :
      {a : Result ℕ Refusal} {k keep : List ℕ} (table : List ℕ)
      → ◌≡◌ {A = Checked} (record { answer = a; keep = k }) (check_outcome program_tick left right keep table)
      → keep ≡ zeros keep_limit → check_line a ≡ recheck_prints left right table
  unfolding recheck_prints
  recheck_line table done e =
      ap (λ (o : Checked). check_line o.answer) done
      ∙ ap (λ (l : List ℕ). check_line (check_outcome program_tick left right l table).answer) e

  -- the widest table that is counted
  pub counted_line :
      {a : Result WidestTable Refusal} {k t keep table : List ℕ}
      → ◌≡◌ {A = Widened} (record { answer = a; keep = k; table = t })
      (widest_outcome program_tick left right keep table)
      → keep ≡ zeros keep_limit → table ≡ zeros counted_bytes
      → widest_line a ≡ widest_line (widest_outcome program_tick left right (zeros keep_limit)
      (zeros counted_bytes)).answer
  counted_line done e f = rw (e, f) at (ap (λ (o : Widened). widest_line o.answer) done)

  -- the search
  pub megzhoi_lines :
      {a : Result ℕ Refusal} {k r keep run : List ℕ} {back line : ℕ}
      → ◌≡◌ {A = Outcome} (record { answer = a; keep = k; run = r })
      (search_outcome program_tick left right keep back line run)
      → keep ≡ zeros keep_limit → back ≡ entries → line ≡ entries → run ≡ zeros entries
      → search_lines left right a r ≡ megzhoi_prints left right
  unfolding megzhoi_prints
  megzhoi_lines done e f g h =
      rw (e, f, g, h) at (ap (λ (o : Outcome). search_lines left right o.answer o.run) done)

  pub no_departure :
      {a : Result ℕ Refusal} {n : ℕ} (r : List ℕ) → a ≡ Ok n → n ≡ 0
      → widest_line (widest_outcome program_tick left right (zeros keep_limit) (zeros counted_bytes)).answer
      ≡ search_lines left right a r
  unfolding search_lines
  no_departure {n = n} r e z = rw (e, eq-eqb n 0 z)

  pub a_departure :
      {a : Result ℕ Refusal} {n : ℕ} (r : List ℕ) → a ≡ Ok n → (n ≡ 0 → ⊥)
      → departure_lines left (text_in (read_outcome program_tick left)).channels n r ≡ search_lines left right a r
  unfolding search_lines
  a_departure {n = n} r e z = rw (e, ne_eqb n 0 z)

  pub search_refused :
      {a : Result ℕ Refusal} {f : Refusal} (r : List ℕ) → a ≡ Err f
      → refusal_line f ≡ search_lines left right a r
  unfolding search_lines
  search_refused r e = rw e

pub check_accepted : {a : Result ℕ Refusal} {count : ℕ} → a ≡ Ok count → accepted_line count ≡ check_line a
unfolding check_line
check_accepted e = rw e

pub check_refused : {a : Result ℕ Refusal} {f : Refusal} → a ≡ Err f → refusal_line f ≡ check_line a
unfolding check_line
check_refused e = rw e

pub widest_made : {a : Result WidestTable Refusal} {made : WidestTable} → a ≡ Ok made → yes_line made.count ≡ widest_line a
unfolding widest_line
widest_made e = rw e

pub widest_refused : {a : Result WidestTable Refusal} {f : Refusal} → a ≡ Err f → refusal_line f ≡ widest_line a
unfolding widest_line
widest_refused e = rw e

-- the implementation check
pub implementation_line : (left : List ℕ) {v : Result ⊤ Refusal} → v ≡ implementation_outcome program_tick left
    → verdict_line v ≡ implementation_prints left
unfolding implementation_prints
implementation_line left e = ap verdict_line e

pub verdict_passed : {v : Result ⊤ Refusal} → v ≡ Ok tt → passed_line ≡ verdict_line v
unfolding verdict_line
verdict_passed e = rw e

pub verdict_refused : {v : Result ⊤ Refusal} {f : Refusal} → v ≡ Err f → refusal_line f ≡ verdict_line v
unfolding verdict_line
verdict_refused e = rw e

-- equal lists are equally short
pub short_as : {xs ys : List ℕ} {n : ℕ} → xs ≡ ys → length xs ≤ n → length ys ≤ n
short_as e l = rw e at l
