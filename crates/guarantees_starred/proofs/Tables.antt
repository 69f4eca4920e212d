-- The tables of the posts: the widest ones, and the checks of two given ones, computed.
use Rattle.std.specs.Prelude.{◌≡◌, refl, Bool, true, false, not, ◌&&◌, cond, List, [], ◌∷◌, ℕ, suc, Result, Ok, Err, ⊤}
use Rattle.std.proofs.Math.Path.{ap}
use Rattle.systems.specs.Tests.{at, ones, table, sieve, least}
use Rattle.systems.specs.Definitions.{tick, Signature}
use Rattle.systems.specs.Finite.{FiniteSystem, safe_states, widest, if_in, pruned, step_ok}
use Rattle.systems.proofs.Compute.{widest_by}
use Rattle.reader_examples.specs.Texts.{post, rearm, strict, twice}
use Rattle.reader_examples.specs.Records.{post_record, rearm_record, strict_record, twice_record}
use Rattle.bitmaps.specs.Bits.{bit_at, byte_of, tab_from}
use Rattle.tables_check.specs.Fault.{step, step_fault, picked, row_from, table_from}
use Rattle.tables_check.specs.declared.Fault.{Fault}
use Rattle.tables_check.specs.declared.Fault.TheVariants.{NotAllowed}
use Rattle.tables_check.specs.declared.FailedPair.{FailedPair}
use Rattle.tables_check.specs.declared.FailedPair.TheVariants.{BrokenAt}
use Rattle.tables_check.specs.Judged.{breaks, least_broken, pair_fault, pairs_judged}
use Rattle.byte_slices.specs.Decimal.{digit, digits, decimal}
use Rattle.tables_header.specs.Header.{header, header_bytes, table_bytes, begins, fits}
use Rattle.tables_rows.specs.Raster.{set_at, denoted, in_row, raster}
use Rattle.tables_whole.specs.TableFile.{table_file}
use Rattle.refusals.specs.declared.Refusal.{Refusal}
use Rattle.tables_widest.specs.declared.WidestTable.{WidestTable}
use Rattle.guarantees_starred.specs.Sentences.{widest_raster, diagonal_raster, start_raster, ten_by_ten}
use Rattle.guarantees_starred.proofs.Opened.{opened}
use Rattle.guarantees_starred.proofs.Posts.{post_keep, post_known, rearm_keep, rearm_known, strict_keep, strict_known, twice_known}
use Rattle.guarantees_starred.proofs.Runs.{Pair, left_of, right_of}

-- the widest table of Post against Post, row after row
abbrev pub post_pairs : List Bool
post_pairs =
    true ∷ false ∷ false ∷ false ∷ false ∷ false ∷ false ∷ false ∷ false ∷ false ∷
    false ∷ true ∷ false ∷ false ∷ false ∷ false ∷ false ∷ false ∷ false ∷ false ∷
    false ∷ false ∷ true ∷ false ∷ false ∷ false ∷ false ∷ false ∷ false ∷ false ∷
    false ∷ false ∷ false ∷ true ∷ false ∷ false ∷ false ∷ false ∷ false ∷ false ∷
    false ∷ false ∷ false ∷ false ∷ false ∷ false ∷ false ∷ false ∷ false ∷ false ∷
    false ∷ false ∷ false ∷ false ∷ false ∷ true ∷ true ∷ true ∷ true ∷ true ∷
    false ∷ false ∷ false ∷ false ∷ false ∷ true ∷ true ∷ true ∷ true ∷ true ∷
    false ∷ false ∷ false ∷ false ∷ false ∷ true ∷ true ∷ true ∷ true ∷ true ∷
    false ∷ false ∷ false ∷ false ∷ false ∷ true ∷ true ∷ true ∷ true ∷ true ∷
    false ∷ false ∷ false ∷ false ∷ false ∷ true ∷ true ∷ true ∷ true ∷ true ∷ []

pub post_widest : (p : Pair post post post_record post_record) → widest (left_of p) (right_of p) ≡ post_pairs
unfolding opened
post_widest p = widest_by (left_of p) (right_of p) post_keep (post_known.safe p.left_text)

-- Twice against Post and Post against Twice: the same table
pub twice_post_widest : (p : Pair twice post twice_record post_record) → widest (left_of p) (right_of p) ≡ post_pairs
unfolding opened
twice_post_widest p = widest_by (left_of p) (right_of p) post_keep (twice_known.safe p.left_text)

pub post_twice_widest : (p : Pair post twice post_record twice_record) → widest (left_of p) (right_of p) ≡ post_pairs
unfolding opened
post_twice_widest p = widest_by (left_of p) (right_of p) post_keep (post_known.safe p.left_text)

-- how many there are, and the file
pub post_count : ones post_pairs ≡ 29
unfolding ones
post_count = refl

unfoldable pub opened_file : Unit {0}
unfolding digit digits decimal header header_bytes table_bytes begins fits in_row raster tab_from byte_of table_file
opened_file = tt

pub post_file : table_file 10 10 post_pairs ≡ ten_by_ten widest_raster
unfolding opened_file
post_file = refl

pub file_size : table_bytes 10 10 ≡ 29
unfolding opened_file
file_size = refl

pub header_size : header_bytes 10 10 ≡ 9
unfolding opened_file
header_size = refl

pub strict_file_size : table_bytes 10 12 ≡ 33
unfolding opened_file
strict_file_size = refl

pub strict_file_wide : table_bytes 12 10 ≡ 29
unfolding opened_file
strict_file_wide = refl

-- what is answered beside a table: how many pairs it has, and whether the start pair is one
abbrev pub made : ℕ → Bool → Result WidestTable Refusal
made count start = Ok (record { count = count; start = start })

abbrev pub pairs_of : List Bool → Result WidestTable Refusal
pairs_of X = made (ones X) (at X 0)

-- Rearm against Post: 25 pairs, and the start pair is not one
pub rearm_pairs : (p : Pair rearm post rearm_record post_record) → pairs_of (widest (left_of p) (right_of p))
    ≡ made 25 false
unfolding opened
rearm_pairs p = ap pairs_of (widest_by (left_of p) (right_of p) rearm_keep (rearm_known.safe p.left_text))

-- Strict against Post, and Post against Strict: 34 pairs, and the start pair is one
pub strict_post_pairs : (p : Pair strict post strict_record post_record) → pairs_of (widest (left_of p) (right_of p))
    ≡ made 34 true
unfolding opened
strict_post_pairs p = ap pairs_of (widest_by (left_of p) (right_of p) strict_keep (strict_known.safe p.left_text))

pub post_strict_pairs : (p : Pair post strict post_record strict_record) → pairs_of (widest (left_of p) (right_of p))
    ≡ made 34 true
unfolding opened
post_strict_pairs p = ap pairs_of (widest_by (left_of p) (right_of p) post_keep (post_known.safe p.left_text))

-- the check with the left's safe states handed over
module _ {A : Signature} (L R : FiniteSystem A) (X : ℕ → ℕ → Bool) where
  unfoldable pub broken_with : List Bool → ℕ → ℕ → ℕ → Bool
  broken_with K s t c = not (step_ok A (λ s c. if_in K (L.next s c)) R.next X s t c)

  unfoldable pub fault_with : List Bool → ℕ → ℕ → Result ⊤ Fault
  fault_with K s t =
      let broken = step_fault (suc A.channels) (least (broken_with K s t) 0 (suc A.channels)) in
      cond (X s t) (cond (at K s && R.holds t) broken (Err NotAllowed)) (Ok tt)

  unfoldable pub judged_with : List Bool → Result ⊤ FailedPair
  judged_with K = table_from (fault_with K) R.size L.size 0

  pub judged_by : (K : List Bool) → safe_states L ≡ K → pairs_judged L R X ≡ judged_with K
  unfolding pairs_judged pair_fault least_broken breaks pruned broken_with fault_with judged_with
  judged_by K e = ap judged_with e

unfoldable pub opened_check : Unit {0}
unfolding opened broken_with fault_with judged_with step_fault picked row_from table_from bit_at
opened_check = tt

pub diagonal_judged : (p : Pair post post post_record post_record)
    → pairs_judged (left_of p) (right_of p) (set_at 10 diagonal_raster) ≡ Ok tt
unfolding opened_check
diagonal_judged p = judged_by (left_of p) (right_of p) (set_at 10 diagonal_raster) post_keep (post_known.safe p.left_text)

-- the tick breaks a rule at the start pair
abbrev pub start_fault : Result ⊤ FailedPair
start_fault = Err (BrokenAt (step tick) 0 0)

pub start_judged : (p : Pair post post post_record post_record)
    → pairs_judged (left_of p) (right_of p) (set_at 10 start_raster) ≡ start_fault
unfolding opened_check
start_judged p = judged_by (left_of p) (right_of p) (set_at 10 start_raster) post_keep (post_known.safe p.left_text)

pub diagonal_count : ones (denoted 10 10 diagonal_raster) ≡ 9
unfolding ones denoted table sieve bit_at
diagonal_count = refl

pub diagonal_fits : fits 10 10 (ten_by_ten diagonal_raster) ≡ true
unfolding opened_file
diagonal_fits = refl

pub start_fits : fits 10 10 (ten_by_ten start_raster) ≡ true
unfolding opened_file
start_fits = refl
