-- What the operations on two systems return once their slices are long enough: none of the codes 13, 14, 15 and 21.
use Rattle.std.specs.Prelude.{◌≡◌, Bool, not, cond, List, ℕ, ◌*◌, ◌≤◌, ◌<◌, ltb, length, drop, Result, Ok, Err, ⊤}
use Rattle.std.proofs.Math.Path.{refl}
use Rattle.std.proofs.Common.{sym, subst, arith}
use Rattle.std.proofs.Math.Bool.{true, false}
use borrow.Author.Tests.{le-ltb}
use Rattle.std.proofs.Math.Dec.{T}
use Rattle.refusals.specs.declared.Refusal.{Refusal}
use Rattle.refusals.specs.Refusals.{code, keep_too_short, other_table, start_not_safe, start_pair_not_set, run_too_short}
use Rattle.systems.specs.Tests.{ones}
use Rattle.systems.specs.Definitions.{Signature}
use Rattle.systems.specs.Finite.{FiniteSystem, safe, safe_states, search_run}
use Rattle.systems.proofs.Theorems.{identity, search_bounded}
use Rattle.bitmaps.specs.Packed.{bytes_for, packed}
use Rattle.reader_record.specs.declared.Text.{Text}
use Rattle.clocks.specs.States.{state_count}
use Rattle.safe_states.specs.Outcome.{kept_outcome, found_outcome}
use Rattle.tables_rows.specs.Raster.{set_at, denoted}
use Rattle.tables_header.specs.Header.{header_bytes, table_bytes, fits}
use Rattle.tables_check.specs.declared.FailedPair.{FailedPair}
use Rattle.tables_check.specs.declared.FailedPair.TheVariants.{NotAllowedAt, BrokenAt}
use Rattle.tables_check.specs.Judged.{pairs_judged}
use Rattle.tables_widest.specs.declared.WidestTable.{WidestTable}
use Rattle.tables.specs.Outcome.{scanned, check_refused, check_systems, widest_refused, widest_systems}
use Rattle.search.specs.Outcome as search
use Rattle.search.specs.Outcome.{search_systems}
use Rattle.megzhoi_c.specs.Returned.{of_numbers, of_safe, of_search, of_check, of_widest, ReturnsNo}

-- a refusal whose code is from 13 to 15
abbrev pub Short : (ℕ → Refusal) → Type 0
Short kind = (i : ℕ) → (code (keep_too_short 0) ≤ code (kind i)) × (code (kind i) < code other_table)

-- the safe states of a record
pub kept : (t : Text) (keep : List ℕ) → bytes_for (state_count t) ≤ length keep
    → ReturnsNo keep_too_short (of_safe (kept_outcome t keep).answer)
unfolding kept_outcome found_outcome of_numbers
kept t keep k = rw (le-ltb (length keep) (bytes_for (state_count t)) k, kept_outcome) (λ i e. omega (arith, e))

-- the search
search_late : (a b : Bool) (s n : ℕ) (steps kept run : List ℕ) (kind : ℕ → Refusal) → Short kind
    → ReturnsNo kind (of_search (cond a (search.refused (start_not_safe s) kept run)
    (cond b (search.refused (run_too_short n) kept run) (search.found steps kept run))).answer)
unfolding of_numbers
search_late true b s n steps kept run kind short i e = omega (arith, short i, e)
search_late false true s n steps kept run kind short i e = omega (arith, short i, e)
search_late false false s n steps kept run kind short i e = omega (arith, short i, e)

module _ {A : Signature} (L R : FiniteSystem A) (keep : List ℕ) (k : bytes_for L.size ≤ length keep) where
  module _ (back line : ℕ) (run : List ℕ) (b : L.size * R.size ≤ back) (l : L.size * R.size ≤ line) where
    pub searched : (kind : ℕ → Refusal) → Short kind
        → ReturnsNo kind (of_search (search_systems L R keep back line run).answer)
    unfolding search_systems
    searched kind short =
        rw (
          le-ltb (length keep) (bytes_for L.size) k,
          le-ltb back (L.size * R.size) b,
          le-ltb line (L.size * R.size) l,
        )
        (search_late (not (safe L L.start)) (ltb (length run) (length (search_run L R))) L.start
        (length (search_run L R)) (search_run L R) (packed L.size (safe_states L) keep) run kind short)

    -- a departure has at most as many steps as there are pairs
    pub searched_run : L.size * R.size ≤ length run
        → ReturnsNo run_too_short (of_search (search_systems L R keep back line run).answer)
    unfolding search_systems of_numbers
    searched_run r = go (safe L L.start) refl
      where
        go : (s : Bool) → safe L L.start ≡ s
            → ReturnsNo run_too_short (of_search (search_systems L R keep back line run).answer)
        go true q =
            let few = search_bounded (identity L) (identity R) (subst T (sym q) tt) in
            rw (
              le-ltb (length keep) (bytes_for L.size) k,
              le-ltb back (L.size * R.size) b,
              le-ltb line (L.size * R.size) l,
              q,
              le-ltb (length run) (length (search_run L R)) (omega (arith, few, r)),
            )
            (λ i e. omega (arith, e))
        go false q =
            rw (
              le-ltb (length keep) (bytes_for L.size) k,
              le-ltb back (L.size * R.size) b,
              le-ltb line (L.size * R.size) l,
              q,
            )
            (λ i e. omega (arith, e))

-- the check of a table
scan_late : (width count : ℕ) (f : Result ⊤ FailedPair) (kind : ℕ → Refusal) → Short kind
    → ReturnsNo kind (of_check (scanned width count f))
unfolding of_numbers scanned
scan_late width count (Ok passed) kind short i e = omega (arith, short i, e)
scan_late width count (Err (NotAllowedAt s t)) kind short i e = omega (arith, short i, e)
scan_late width count (Err (BrokenAt step s t)) kind short i e = omega (arith, short i, e)

check_late : (a b c : Bool) (s t : ℕ) (answer : Result ℕ Refusal) (keep kept : List ℕ) (kind : ℕ → Refusal) → Short kind
    → ReturnsNo kind (of_check answer)
    → ReturnsNo kind (of_check (cond a (check_refused other_table keep)
    (cond b (check_refused (start_not_safe s) kept)
    (cond c (check_refused (start_pair_not_set s t) kept) (record { answer = answer; keep = kept })))).answer)
unfolding of_numbers
check_late true b c s t answer keep kept kind short last i e = omega (arith, short i, e)
check_late false true c s t answer keep kept kind short last i e = omega (arith, short i, e)
check_late false false true s t answer keep kept kind short last i e = omega (arith, short i, e)
check_late false false false s t answer keep kept kind short last i e = last i e

pub checked : {A : Signature} (L R : FiniteSystem A) (keep table : List ℕ) (kind : ℕ → Refusal) → Short kind
    → bytes_for L.size ≤ length keep
    → ReturnsNo kind (of_check (check_systems L R keep table).answer)
unfolding check_systems
checked L R keep table kind short k =
    let raster = drop (header_bytes R.size L.size) table in
    let related = set_at R.size raster in
    let count = ones (denoted L.size R.size raster) in
    let found = pairs_judged L R related in
    rw (le-ltb (length keep) (bytes_for L.size) k)
    (check_late (not (fits R.size L.size table)) (not (safe L L.start))
    (not (related L.start R.start)) L.start R.start (scanned R.size count found) keep
    (packed L.size (safe_states L) keep) kind short (scan_late R.size count found kind short))

-- the widest table
widest_late : (a : Bool) (s : ℕ) (made : WidestTable) (kept table after : List ℕ) (kind : ℕ → Refusal) → Short kind
    → ReturnsNo kind (of_widest (cond a (widest_refused (start_not_safe s) kept table)
    (record { answer = Ok made; keep = kept; table = after })).answer)
unfolding of_numbers
widest_late true s made kept table after kind short i e = omega (arith, short i, e)
widest_late false s made kept table after kind short i e = omega (arith, short i, e)

pub widened : {A : Signature} (L R : FiniteSystem A) (keep table : List ℕ) (kind : ℕ → Refusal) → Short kind
    → bytes_for L.size ≤ length keep
    → table_bytes R.size L.size ≤ length table
    → ReturnsNo kind (of_widest (widest_systems L R keep table).answer)
unfolding widest_systems
widened L R keep table kind short k t =
    rw (le-ltb (length keep) (bytes_for L.size) k, le-ltb (length table) (table_bytes R.size L.size) t)
    (widest_late (not (safe L L.start)) L.start _ _ table _ kind short)
