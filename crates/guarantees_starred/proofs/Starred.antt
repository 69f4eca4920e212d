-- The starred posts in one theorem about the definitions, from the texts' bytes (SPECIFICATION 17.4).
use Rattle.std.specs.Prelude.{◌≡◌, refl, Bool, true, false, List, [], ◌∷◌, ◌++◌, ℕ, ◌≤◌, length, drop, Result, Ok, ⊤}
use Rattle.std.proofs.Common.{ap, ◌∙◌}
use Rattle.refusals.specs.declared.Refusal.{Refusal}
use Rattle.refusals.specs.Refusals.{start_not_safe}
use Rattle.reader_record.specs.declared.Text.{Text}
use Rattle.pairing.specs.Channels.{unmatched}
use Rattle.bitmaps.specs.Packed.{bytes_for}
use Rattle.reader_examples.specs.Texts.{post}
use Rattle.reader_examples.specs.Records.{post_record}
use Rattle.systems.specs.Bools.{T_true}
use Rattle.systems.specs.Tests.{at, ones}
use Rattle.systems.specs.Definitions.{tick}
use Rattle.systems.specs.Finite.{widest}
use Rattle.bitmaps.specs.Bits.{bit_at, byte_of, tab_from, written}
use Rattle.bitmaps.specs.Packed.{packed}
use Rattle.clocks_read.specs.Reading.{read_outcome, states_in}
use Rattle.two_texts.specs.Two.{left_system, right_system}
use Rattle.search.specs.Outcome as search
use Rattle.two_operations.specs.Outcome.{check_outcome, widest_outcome}
use Rattle.tables_header.specs.Header.{table_bytes, fits}
use Rattle.tables_rows.specs.Raster.{set_at, denoted}
use Rattle.tables_check.specs.declared.FailedPair.{FailedPair}
use Rattle.tables_check.specs.Judged.{pairs_judged}
use Rattle.tables_widest.specs.declared.WidestTable.{WidestTable}
use Rattle.tables.specs.Outcome.{Checked, check_refused, scanned, Widened, widest_refused}
use Rattle.guarantees_starred.specs.Sentences.{widest_raster, diagonal_raster, start_raster, ten_by_ten, hush_kept, WidensAsPost, Starred}
use Rattle.guarantees_starred.proofs.Safe.{post_counted, strict_counted, hush_counted, twice_counted, woken_counted}
use Rattle.guarantees_starred.proofs.Implementations.{post_passes, rearm_passes, early_passes, idle_passes, strict_passes, hush_neither, loose_beside, spare_count, spare_fault, spare_passes, sheet_count, sheet_fewer, sheet_passes, sheet_beside, sheet_longest, sheet_large, sheet_zero, twice_passes, stay_refused, reset_refused, woken_passes, overridden_count, too_late_refused, late_refused}
use Rattle.guarantees_starred.proofs.Posts.{Known, hush_keep, post_known, rearm_known, early_known, strict_known, hush_known, idle_known, twice_known, woken_known, overridden_known}
use Rattle.guarantees_starred.proofs.Runs.{Pair, left_of, right_of, post_post_equal, early_post_equal, idle_post_equal, post_idle_equal, post_hush_equal, rearm_post_equal, hush_post_equal, strict_post_equal, post_strict_equal, twice_post_equal, post_twice_equal, strict_post_run, post_strict_run, twice_post_run, post_twice_run, post_post_run, early_post_run, idle_post_run, post_idle_run, post_hush_run, rearm_post_run, woken_post_equal, post_woken_equal, overridden_woken_equal, woken_overridden_equal, woken_post_run, post_woken_run, overridden_woken_run, woken_overridden_run}
use Rattle.guarantees_starred.proofs.Tables.{made, post_pairs, post_widest, twice_post_widest, post_twice_widest, post_count, post_file, file_size, header_size, strict_file_size, strict_file_wide, pairs_of, rearm_pairs, strict_post_pairs, post_strict_pairs, diagonal_judged, start_fault, start_judged, diagonal_count, diagonal_fits, start_fits}
use Rattle.guarantees_starred.proofs.Outcomes.{compares, of_texts, search_unsafe, check_unsafe, widest_unsafe, searched, widened, checked}
use Rattle.limits.specs.Limits.{shortest_tick}

-- two texts of 10 states whose widest table is that of Post against Post
made_as_post :
    {s u : List ℕ} {l r : Text} {K J : List Bool} (x : Known s l 10 K) (y : Known u r 10 J)
    (e : unmatched s l u r ≡ Ok tt) → at K 0 ≡ true
    → ((p : Pair s u l r) → widest (left_of p) (right_of p) ≡ post_pairs) → WidensAsPost s u
made_as_post x y e safe is keep table h k =
    let o = widened x y e safe post_pairs
    (of_texts x y e (λ l r p. widest (left_of p) (right_of p) ≡ post_pairs) is)
    keep table h (rw file_size k) in (
      ap (λ (x : Widened). x.answer) o ∙ ap (λ (n : ℕ). made n true) post_count,
      ap (λ (x : Widened). x.table) o ∙ ap (λ (t : List ℕ). t ++ drop (table_bytes 10 10) table) post_file
          ∙ ap (λ (n : ℕ). ten_by_ten widest_raster ++ drop n table) file_size,
    )

-- the check of a table of 10 by 10 states with the start pair
post_post_checked : (raster : List ℕ) (x : Result ⊤ FailedPair) → fits 10 10 (ten_by_ten raster) ≡ true → set_at 10 raster 0 0
    ≡ true
    → ((p : Pair post post post_record post_record) → pairs_judged (left_of p) (right_of p) (set_at 10 raster) ≡ x)
    → (keep : List ℕ) → 2 ≤ length keep
    → (check_outcome shortest_tick post post keep (ten_by_ten raster)).answer
    ≡ scanned 10 (ones (denoted 10 10 raster)) x
post_post_checked raster x form set judged keep h =
    ap (λ (o : Checked). o.answer)
    (checked post_known post_known post_post_equal refl (ten_by_ten raster) raster x form
    (ap (λ (n : ℕ). drop n (ten_by_ten raster)) header_size) set judged keep h)

-- two texts whose widest table is answered so
made_as :
    {s u : List ℕ} {l r : Text} {n m : ℕ} {K J : List Bool} (x : Known s l n K) (y : Known u r m J)
    (e : unmatched s l u r ≡ Ok tt) (a : Result WidestTable Refusal) → at K 0 ≡ true
    → ((p : Pair s u l r) → pairs_of (widest (left_of p) (right_of p)) ≡ a) → (keep table : List ℕ)
    → bytes_for n ≤ length keep → table_bytes m n ≤ length table → (widest_outcome shortest_tick s u keep table).answer
    ≡ a
made_as x y e a safe is keep table h k =
    let c = compares x y e in
    ap (λ (o : Widened). o.answer)
    (widened x y e safe (widest (left_system shortest_tick c) (right_system shortest_tick c)) refl keep table h k)
    ∙ of_texts x y e (λ l r p. pairs_of (widest (left_of p) (right_of p)) ≡ a) is

-- Hush's safe states as bytes
hush_bytes : (keep : List ℕ) → packed 10 hush_keep keep ≡ hush_kept keep
unfolding packed written tab_from byte_of
hush_bytes keep = refl

post_count_read : states_in (read_outcome shortest_tick post) ≡ 10
post_count_read = ap states_in post_known.read ∙ post_known.size

pub starred_posts : Starred
unfolding scanned bit_at
starred_posts = record {
  post_states = post_count_read;
  post_safe = post_counted;
  strict_states = ap states_in strict_known.read ∙ strict_known.size;
  strict_safe = strict_counted;
  hush_safe = hush_counted;
  hush_search = λ keep back line run room. search_unsafe hush_known post_known hush_post_equal refl keep back line run room
      ∙ ap (λ (k : List ℕ). search.refused (start_not_safe 0) k run) (hush_bytes keep);
  hush_check = λ keep table h form. check_unsafe hush_known post_known hush_post_equal refl keep table h
      (T_true (fits 10 10 table) form) ∙ ap (check_refused (start_not_safe 0)) (hush_bytes keep);
  hush_widest = λ keep table h k. widest_unsafe hush_known post_known hush_post_equal refl keep table h (rw file_size k)
      ∙ ap (λ (k : List ℕ). widest_refused (start_not_safe 0) k table) (hush_bytes keep);
  post_post = searched post_known post_known post_post_equal refl [] post_post_run;
  post_widest = made_as_post post_known post_known post_post_equal refl post_widest;
  diagonal = λ keep h. post_post_checked diagonal_raster (Ok tt) diagonal_fits refl diagonal_judged keep h
      ∙ ap (λ (n : ℕ). Ok n) diagonal_count;
  start_only = post_post_checked start_raster start_fault start_fits refl start_judged;
  rearm_widest = λ keep table h k. made_as rearm_known post_known rearm_post_equal (made 25 false) refl rearm_pairs
      keep table h (rw file_size k);
  strict_post = searched strict_known post_known strict_post_equal refl [] strict_post_run;
  post_strict = searched post_known strict_known post_strict_equal refl [] post_strict_run;
  strict_widest = λ keep table h k. made_as strict_known post_known strict_post_equal (made 34 true) refl
      strict_post_pairs keep table h (rw strict_file_size k);
  strict_widened = λ keep table h k. made_as post_known strict_known post_strict_equal (made 34 true) refl
      post_strict_pairs keep table h (rw strict_file_wide k);
  early_post = searched early_known post_known early_post_equal refl (tick ∷ tick ∷ 3 ∷ []) early_post_run;
  idle_post = searched idle_known post_known idle_post_equal refl (tick ∷ tick ∷ tick ∷ tick ∷ []) idle_post_run;
  post_idle = searched post_known idle_known post_idle_equal refl (tick ∷ tick ∷ tick ∷ 3 ∷ []) post_idle_run;
  post_hush = searched post_known hush_known post_hush_equal refl (tick ∷ tick ∷ tick ∷ 3 ∷ []) post_hush_run;
  rearm_post = searched rearm_known post_known rearm_post_equal refl (tick ∷ tick ∷ tick ∷ 2 ∷ tick ∷ []) rearm_post_run;
  post_passes = post_passes;
  rearm_passes = rearm_passes;
  early_passes = early_passes;
  idle_passes = idle_passes;
  strict_passes = strict_passes;
  hush_neither = hush_neither;
  loose_beside = loose_beside;
  spare_states = spare_count;
  spare_fault = spare_fault;
  spare_passes = spare_passes;
  sheet_states = sheet_count;
  sheet_fewer = sheet_fewer;
  sheet_passes = sheet_passes;
  sheet_beside = sheet_beside;
  sheet_longest = sheet_longest;
  sheet_large = sheet_large;
  sheet_zero = sheet_zero;
  twice_states = ap states_in twice_known.read ∙ twice_known.size;
  twice_safe = twice_counted;
  twice_post = searched twice_known post_known twice_post_equal refl [] twice_post_run;
  post_twice = searched post_known twice_known post_twice_equal refl [] post_twice_run;
  twice_widest = made_as_post twice_known post_known twice_post_equal refl twice_post_widest;
  twice_widened = made_as_post post_known twice_known post_twice_equal refl post_twice_widest;
  twice_passes = twice_passes;
  stay_refused = stay_refused;
  reset_refused = reset_refused;
  woken_states = ap states_in woken_known.read ∙ woken_known.size;
  woken_safe = woken_counted;
  woken_passes = woken_passes;
  woken_post = searched woken_known post_known woken_post_equal refl (2 ∷ tick ∷ tick ∷ 3 ∷ []) woken_post_run;
  post_woken = searched post_known woken_known post_woken_equal refl (2 ∷ tick ∷ tick ∷ tick ∷ []) post_woken_run;
  overridden_states = overridden_count;
  overridden_woken = searched overridden_known woken_known overridden_woken_equal refl [] overridden_woken_run;
  woken_overridden = searched woken_known overridden_known woken_overridden_equal refl [] woken_overridden_run;
  too_late_refused = too_late_refused;
  late_refused = late_refused;
}
