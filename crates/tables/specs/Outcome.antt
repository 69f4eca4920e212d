-- The operations on tables, for two systems of one signature: their answers, and what keep and the table hold
-- afterwards, for all contents and lengths (SPECIFICATION 12.5, 12.6, 13.3, 13.5).
use Rattle.std.specs.Prelude.{not, cond, List, ◌++◌, ℕ, ltb, length, drop, Result, Ok, Err, ⊤}
use Rattle.refusals.specs.declared.Refusal.{Refusal}
use Rattle.refusals.specs.Refusals.{keep_too_short, table_too_short, other_table, start_not_safe, start_pair_not_set, pair_not_allowed, rule_broken}
use Rattle.systems.specs.Tests.{ones}
use Rattle.systems.specs.Definitions.{Signature}
use Rattle.systems.specs.Finite.{FiniteSystem, safe, safe_states, widest, cell}
use Rattle.bitmaps.specs.Packed.{bytes_for, packed}
use Rattle.tables_header.specs.Header.{header_bytes, table_bytes, fits}
use Rattle.tables_rows.specs.Raster.{set_at, denoted}
use Rattle.tables_check.specs.declared.FailedPair.{FailedPair}
use Rattle.tables_check.specs.declared.FailedPair.TheVariants.{NotAllowedAt, BrokenAt}
use Rattle.tables_check.specs.Judged.{pairs_judged}
use Rattle.tables_widest.specs.declared.WidestTable.{WidestTable}
use Rattle.tables_whole.specs.TableFile.{table_file}

-- what the check promises: its answer, and keep afterwards
pub record Checked : Type 0 where
  pub answer : Result ℕ Refusal
  pub keep : List ℕ

-- a refusal
abbrev pub check_refused : Refusal → List ℕ → Checked
check_refused r keep = record { answer = Err r; keep = keep }

-- 19 and 20 for the lowest pair that fails, or the number of pairs set (SPECIFICATION 11.5, 12.5, 13.1); `width` is W,
-- the right states
unfoldable pub scanned : ℕ → ℕ → Result ⊤ FailedPair → Result ℕ Refusal
scanned width count (Ok passed) = Ok count
scanned width count (Err (NotAllowedAt s t)) = Err (pair_not_allowed s t)
scanned width count (Err (BrokenAt step s t)) = Err (rule_broken width step s t)

-- The check of a table for L, the left, and R, the right: 13, 16, 17, 18 in that order, then 19 and 20 by pair. From 17
-- on keep holds the left's safe states (SPECIFICATION 12.5, 13.3, 13.5).
unfoldable pub check_systems : {A : Signature} → FiniteSystem A → FiniteSystem A → List ℕ → List ℕ → Checked
check_systems L R keep table =
    let needed = bytes_for L.size in
    let kept = packed L.size (safe_states L) keep in
    let raster = drop (header_bytes R.size L.size) table in
    let related = set_at R.size raster in
    let lowest = scanned R.size (ones (denoted L.size R.size raster)) (pairs_judged L R related) in
    cond (ltb (length keep) needed) (check_refused (keep_too_short needed) keep)
    (cond (not (fits R.size L.size table)) (check_refused other_table keep)
    (cond (not (safe L L.start)) (check_refused (start_not_safe L.start) kept)
    (cond (not (related L.start R.start)) (check_refused (start_pair_not_set L.start R.start) kept)
    (record { answer = lowest; keep = kept }))))

-- what making the widest table promises: its answer, and keep and the table afterwards
pub record Widened : Type 0 where
  pub answer : Result WidestTable Refusal
  pub keep : List ℕ
  pub table : List ℕ

-- a refusal that leaves the table as it came
abbrev pub widest_refused : Refusal → List ℕ → List ℕ → Widened
widest_refused r keep table = record { answer = Err r; keep = keep; table = table }

-- 13, 14, 17 in that order, else the widest table in front of the old bytes, with or without the start pair
-- (SPECIFICATION 11.6, 12.6, 13.3, 13.5).
unfoldable pub widest_systems : {A : Signature} → FiniteSystem A → FiniteSystem A → List ℕ → List ℕ → Widened
widest_systems L R keep table =
    let needed = bytes_for L.size in
    let kept = packed L.size (safe_states L) keep in
    let size = table_bytes R.size L.size in
    let pairs = widest L R in
    cond (ltb (length keep) needed) (widest_refused (keep_too_short needed) keep table)
    (cond (ltb (length table) size) (widest_refused (table_too_short size) keep table)
    (cond (not (safe L L.start)) (widest_refused (start_not_safe L.start) kept table)
    (record {
      answer = Ok (record { count = ones pairs; start = cell L R pairs L.start R.start });
      keep = kept;
      table = table_file L.size R.size pairs ++ drop size table;
    })))
