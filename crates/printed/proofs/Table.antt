-- The widest table in a lent slice: what is printed does not depend on what the slice held, and the file at its front
-- is what is printed.
use Rattle.std.specs.Prelude.{Result, Ok, Err}
use mathlib.Core.Path.{◌≡◌, refl, sym, ap}
use mathlib.Core.Bool.{Bool, true, false, cond, not}
use mathlib.Core.Option.{Option, none, some}
use mathlib.Core.List.{List, ◌++◌}
use Prim.Native.Nat.{ℕ, ◌≤◌}
use native.Mathlib.Omega.{arith}
use lib.Dec.{ltb}
use lib.ListN.{length, drop, length-replicate}
use lib.Seq.{take_at}
use borrow.Author.Tests.{ltb-false}
use Rattle.limits.specs.Limits.{keep_limit}
use Rattle.refusals.specs.declared.Refusal.{Refusal}
use Rattle.refusals.specs.Refusals.{keep_too_short, table_too_short, start_not_safe}
use Rattle.systems.specs.Definitions.{Signature}
use Rattle.systems.specs.Tests.{ones}
use Rattle.systems.specs.Finite.{FiniteSystem, safe, safe_states, widest, cell}
use Rattle.systems.specs.Renumbered.{renumbered}
use Rattle.bitmaps.specs.Packed.{bytes_for, packed}
use Rattle.clocks.proofs.Contract.{system}
use Rattle.clocks_read.specs.Reading.{read_outcome, states_in}
use Rattle.clocks_read.specs.Laws.{read_accepted}
use Rattle.two_texts.specs.Two.{two_judged, left_system, right_system}
use Rattle.two_texts.proofs.Laws.{judged_none, compared, judged_by_none, judged_by_some}
use Rattle.tables_header.specs.Header.{table_bytes}
use Rattle.tables_whole.specs.TableFile.{table_file}
use Rattle.tables_widest.specs.declared.WidestTable.{WidestTable}
use Rattle.tables.specs.Outcome.{Widened, widest_refused, widest_systems}
use Rattle.two_operations.specs.Outcome.{widest_outcome}
use Rattle.demands.proofs.Files.{file_length}
use Rattle.byte_slices.specs.Laid.{Laid, laid}
use Rattle.byte_slices.specs.Put.{front_laid}
use Rattle.printed_lines.specs.Lines.{refusal_line}
use Rattle.printed.specs.Prints.{program_tick, zeros, table_printed, widest_prints}

-- the outcomes for two slices t and u of one length: one refusal, which leaves each as it came, or one file of so many
-- bytes in front of what each held
pub data Alike (t u : List ℕ) (bytes : ℕ) : Widened → Widened → Type 0 where
  refused : {r : Refusal} {k j : List ℕ} → Alike t u bytes (widest_refused r k t) (widest_refused r j u)
  made : {table : WidestTable} {k j : List ℕ} (file : List ℕ) → length file ≡ bytes → bytes ≤ length t
      → Alike t u bytes (record { answer = Ok table; keep = k; table = file ++ drop bytes t })
      (record { answer = Ok table; keep = j; table = file ++ drop bytes u })

systems_alike : {A : Signature} (L R : FiniteSystem A) (keep t u : List ℕ) → length u ≡ length t
    → Alike t u (table_bytes R.size L.size) (widest_systems L R keep t) (widest_systems L R keep u)
unfolding widest_systems
systems_alike L R keep t u e =
    rw e (go (ltb (length keep) (bytes_for L.size)) (ltb (length t) size) refl (not (safe L L.start)))
  where
    size : ℕ
    size = table_bytes R.size L.size

    judged : Bool → Bool → Bool → List ℕ → Widened
    judged a b c x =
        cond a (widest_refused (keep_too_short (bytes_for L.size)) keep x)
        (cond b (widest_refused (table_too_short size) keep x)
        (cond c (widest_refused (start_not_safe L.start) (packed L.size (safe_states L) keep) x)
        (record {
          answer = Ok (record { count = ones (widest L R); start = cell L R (widest L R) L.start R.start });
          keep = packed L.size (safe_states L) keep;
          table = table_file L.size R.size (widest L R) ++ drop size x;
        })))

    go : (a b : Bool) → ltb (length t) size ≡ b → (c : Bool) → Alike t u size (judged a b c t) (judged a b c u)
    go true b q c = refused
    go false true q c = refused
    go false false q true = refused
    go false false q false = made (table_file L.size R.size (widest L R)) (file_length L.size R.size
        (widest L R) t) (ltb-false (length t) size q)

module _ (left right : List ℕ) where
  abbrev file_bytes : ℕ
  file_bytes = table_bytes (states_in (read_outcome program_tick right)) (states_in (read_outcome program_tick left))

  outcome_refused : (keep t : List ℕ) (r : Refusal) → two_judged program_tick left right ≡ some r
      → widest_outcome program_tick left right keep t ≡ widest_refused r keep t
  unfolding widest_outcome
  outcome_refused keep t r e = judged_by_some (two_judged program_tick left right) _ _ r e

  outcome_systems : (keep t : List ℕ) (e : none ≡ two_judged program_tick left right)
      → widest_outcome program_tick left right keep t
      ≡ widest_systems (left_system program_tick (compared program_tick left right e))
      (right_system program_tick (compared program_tick left right e)) keep t
  unfolding widest_outcome
  outcome_systems keep t e = judged_by_none (two_judged program_tick left right) _ _ e

  file_size : (e : none ≡ two_judged program_tick left right)
      → file_bytes ≡ table_bytes (right_system program_tick (compared program_tick left right e)).size
      (left_system program_tick (compared program_tick left right e)
      ).size
  unfolding system renumbered
  file_size e =
      let j = judged_none program_tick left right e in
      rw (
        (read_accepted program_tick right j.right_read).states,
        (read_accepted program_tick left
            j.left_read).states,
      )

  outcomes_alike : (keep t u : List ℕ) → length u ≡ length t
      → Alike t u file_bytes (widest_outcome program_tick left right keep t)
      (widest_outcome program_tick left right keep u)
  outcomes_alike keep t u l = go (two_judged program_tick left right) refl
    where
      go : (o : Option Refusal) → o ≡ two_judged program_tick left right
          → Alike t u file_bytes (widest_outcome program_tick left right keep t)
          (widest_outcome program_tick left right keep u)
      go (some r) e = rw (outcome_refused keep t r (sym e), outcome_refused keep u r (sym e)) refused
      go none e =
          rw (outcome_systems keep t e, outcome_systems keep u e, file_size e)
          (systems_alike (left_system program_tick (compared program_tick left right e))
          (right_system program_tick (compared program_tick left right e)) keep t u l)

alike_made :
    {t u : List ℕ} {bytes : ℕ} {table : WidestTable} {a b : Widened} → Alike t u bytes a b
    → a.answer ≡ Ok table
    → ◌≡◌ {A = Laid} (record { slice = a.table; count = bytes }) (laid t (table_printed bytes b.answer b.table))
unfolding table_printed
alike_made refused e = let z : ◌≡◌ {A = ℕ} 0 1 = cc in absurd (omega arith)
alike_made {t} {u} {bytes} (made file l m) e = front_laid t u file bytes l m

-- and has room in the slice
alike_fits :
    {t u : List ℕ} {bytes : ℕ} {table : WidestTable} {a b : Widened} → Alike t u bytes a b
    → a.answer ≡ Ok table → length (table_printed bytes b.answer b.table) ≤ length t
unfolding table_printed
alike_fits refused e = let z : ◌≡◌ {A = ℕ} 0 1 = cc in absurd (omega arith)
alike_fits {t} {u} {bytes} (made file l m) e = rw (take_at file (drop bytes u) bytes l) (omega arith)

alike_refused :
    {t u : List ℕ} {bytes : ℕ} {f : Refusal} {a b : Widened} → Alike t u bytes a b → a.answer ≡ Err f
    → (a.table ≡ t) × (refusal_line f ≡ table_printed bytes b.answer b.table)
unfolding table_printed
alike_refused refused e = (refl, ap refusal_line (cc))
alike_refused (made file l m) e = let z : ◌≡◌ {A = ℕ} 0 1 = cc in absurd (omega arith)

-- what the function leaves in the slice and returns
module _
    (left right : List ℕ) {a : Result WidestTable Refusal} {k after keep : List ℕ} (out : List ℕ)
    (done : ◌≡◌ {A = Widened} (record { answer = a; keep = k; table = after })
    (widest_outcome program_tick left right keep out))
    (blank : keep ≡ zeros keep_limit) where
  alike : Alike out (zeros (length out)) (file_bytes left right) (record { answer = a; keep = k; table = after })
      (widest_outcome program_tick left right (zeros keep_limit) (zeros (length out)))
  unfolding zeros
  alike =
      rw (done, blank)
      (outcomes_alike left right (zeros keep_limit) out (zeros (length out)) (length-replicate (length out) 0))

  pub widest_laid :
      {n : ℕ} {table : WidestTable} → a ≡ Ok table → n ≡ file_bytes left right
      → ◌≡◌ {A = Laid} (record { slice = after; count = n }) (laid out (widest_prints (length out) left right))
  unfolding widest_prints
  widest_laid e s = rw s (alike_made alike e)

  pub widest_fits :
      {table : WidestTable} → a ≡ Ok table
      → length (widest_prints (length out) left right) ≤ length out
  unfolding widest_prints
  widest_fits e = alike_fits alike e

  pub widest_untouched : {f : Refusal} → a ≡ Err f → after ≡ out
  widest_untouched e = (alike_refused alike e).0

  pub widest_line : {f : Refusal} → a ≡ Err f → refusal_line f ≡ widest_prints (length out) left right
  unfolding widest_prints
  widest_line e = (alike_refused alike e).1
