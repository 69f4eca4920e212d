-- The outcomes of the operations where sizes, starts and safe states are known: of two systems, then of two texts' bytes.
use Rattle.std.specs.Prelude.{◌≡◌, ◌||◌, cond, Result, Ok, ⊤}
use Rattle.std.proofs.Common.{sym, ◌∙◌, arith, le-ltb}
use Rattle.std.proofs.Math.Path.{ap, subst}
use Rattle.std.proofs.Math.Bool.{Bool, true, false, not}
use mathlib.Core.List.{List, ◌++◌}
use Prim.Native.Nat.{ℕ, ◌+◌, ◌*◌, ◌≤◌}
use Rattle.std.proofs.Math.Dec.{ltb}
use Rattle.std.proofs.Math.ListN.{length, drop}
use Rattle.refusals.specs.Refusals.{keep_too_short, table_too_short, queue_too_short, other_table, start_not_safe, start_pair_not_set, run_too_short}
use Rattle.refusals.specs.Answers.{answer_of}
use Rattle.reader_record.specs.declared.Text.{Text}
use Rattle.systems.specs.Tests.{at, ones}
use Rattle.systems.specs.Definitions.{Signature}
use Rattle.systems.specs.Finite.{FiniteSystem, safe, safe_states, search_run, widest}
use Rattle.systems.specs.Renumbered.{renumbered}
use Rattle.clocks.specs.States.{state_count, start_state}
use Rattle.clocks.specs.Accepted.{Accepted}
use Rattle.clocks.proofs.Contract.{system}
use Rattle.bitmaps.specs.Packed.{bytes_for, packed}
use Rattle.clocks_read.specs.Reading.{text_in}
use Rattle.pairing.specs.Channels.{unmatched}
use Rattle.pairing.specs.Equal.{equal_when_nothing}
use Rattle.two_texts.specs.Two.{text_of, Compared, left_system, right_system}
use Rattle.two_texts.proofs.Laws.{named}
use Rattle.search.specs.Outcome as search
use Rattle.search.specs.Outcome.{search_systems}
use Rattle.two_operations.specs.Outcome.{search_outcome, check_outcome, widest_outcome}
use Rattle.tables_header.specs.Header.{header_bytes, table_bytes, fits}
use Rattle.tables_rows.specs.Raster.{set_at, denoted}
use Rattle.tables_check.specs.declared.FailedPair.{FailedPair}
use Rattle.tables_check.specs.Judged.{pairs_judged}
use Rattle.tables_whole.specs.TableFile.{table_file}
use Rattle.tables.specs.Outcome.{Checked, check_refused, scanned, check_systems, Widened, widest_refused, widest_systems}
use Rattle.guarantees.specs.Texts.{AcceptedText, EqualChannels}
use Rattle.guarantees.proofs.Setting.{both, search_is, check_is, widest_is}
use Rattle.guarantees_starred.specs.Sentences.{Room, Searches}
use Rattle.guarantees_starred.proofs.Posts.{Known}
use Rattle.guarantees_starred.proofs.Runs.{Pair, left_of, right_of}
use Rattle.limits.specs.Limits.{shortest_tick}

either_false : (a b : Bool) → a ≡ false → b ≡ false → (a || b) ≡ false
either_false a b p q = rw (p, q)

-- the chains of judgements
past_three : {X : Type 0} (b c d : Bool) (r s t f : X) → b ≡ false → c ≡ false → d ≡ false
    → cond b r (cond c s (cond d t f)) ≡ f
past_three b c d r s t f i j k = rw (i, j, k)

past_four : {X : Type 0} (b c d e : Bool) (r s t u f : X) → b ≡ false → c ≡ false → d ≡ false → e ≡ false
    → cond b r (cond c s (cond d t (cond e u f))) ≡ f
past_four b c d e r s t u f i j k l = rw (i, j, k, l)

at_third : {X : Type 0} (b c d : Bool) (r s t f : X) → b ≡ false → c ≡ false → d ≡ true
    → cond b r (cond c s (cond d t f)) ≡ t
at_third b c d r s t f i j k = rw (i, j, k)

-- the number of the start pair
start_pair : (s m t : ℕ) → s ≡ 0 → t ≡ 0 → s * m + t ≡ 0
start_pair s m t e f = rw (e, f) (omega arith)

-- what is known of two systems: their sizes, that they start in 0, and the left's safe states
pub record Facts {A : Signature} (L R : FiniteSystem A) (n m : ℕ) (K : List Bool) : Type 0 where
  pub size : L.size ≡ n
  pub right_size : R.size ≡ m
  pub start : L.start ≡ 0
  pub right_start : R.start ≡ 0
  pub safe : safe_states L ≡ K

module _ {A : Signature} {L R : FiniteSystem A} {n m : ℕ} {K : List Bool} (F : Facts L R n m K) where
  keep_long : (keep : List ℕ) → bytes_for n ≤ length keep → ltb (length keep) (bytes_for L.size) ≡ false
  keep_long keep h = le-ltb (length keep) (bytes_for L.size) (subst (λ (i : ℕ). bytes_for i ≤ length keep) (sym F.size) h)

  pairs_long : (k : ℕ) → n * m ≤ k → ltb k (L.size * R.size) ≡ false
  pairs_long k h = le-ltb k (L.size * R.size)
      (subst (λ (i : ℕ). i * R.size ≤ k) (sym F.size) (subst (λ (j : ℕ). n * j ≤ k) (sym F.right_size) h))

  start_is : (b : Bool) → at K 0 ≡ b → not (safe L L.start) ≡ not b
  start_is b e = ap (λ (X : List Bool). not (at X L.start)) F.safe ∙ ap (λ (i : ℕ). not (at K i)) F.start
      ∙ ap not e

  kept_is : (keep : List ℕ) → packed L.size (safe_states L) keep ≡ packed n K keep
  kept_is keep = ap (λ (i : ℕ). packed i (safe_states L) keep) F.size ∙ ap (λ (X : List Bool). packed n X keep) F.safe

  table_long : (table : List ℕ) → table_bytes m n ≤ length table
      → ltb (length table) (table_bytes R.size L.size) ≡ false
  table_long table h = le-ltb (length table) (table_bytes R.size L.size)
      (subst (λ (i : ℕ). table_bytes R.size i ≤ length table) (sym F.size)
      (subst (λ (j : ℕ). table_bytes j n ≤ length table) (sym F.right_size) h))

  form_is : (table : List ℕ) → fits m n table ≡ true → not (fits R.size L.size table) ≡ false
  form_is table form = ap (λ (i : ℕ). not (fits R.size i table)) F.size
      ∙ ap (λ (i : ℕ). not (fits i n table)) F.right_size ∙ ap not form

  search_found : (w : List ℕ) → at K 0 ≡ true → search_run L R ≡ w
      → (keep : List ℕ) (back line : ℕ) (run : List ℕ)
      → Room n m (length w) keep back line run → search_systems L R keep back line run
      ≡ search.found w (packed n K keep) run
  unfolding search_systems
  search_found w safe_start e keep back line run room =
      past_four (ltb (length keep) (bytes_for L.size))
      (ltb back (L.size * R.size) || ltb line (L.size * R.size)) (not (safe L L.start))
      (ltb (length run) (length (search_run L R)))
      (search.refused (keep_too_short (bytes_for L.size)) keep run)
      (search.refused (queue_too_short (L.size * R.size)) keep run)
      (search.refused (start_not_safe L.start) (packed L.size (safe_states L) keep) run)
      (search.refused (run_too_short (length (search_run L R))) (packed L.size (safe_states L) keep) run)
      (search.found (search_run L R) (packed L.size (safe_states L) keep) run)
      (keep_long keep room.keep_room)
      (either_false (ltb back (L.size * R.size)) (ltb line (L.size * R.size)) (pairs_long back room.back_room)
      (pairs_long line room.line_room))
      (start_is true safe_start)
      (le-ltb (length run) (length (search_run L R))
      (subst (λ (v : List ℕ). length v ≤ length run) (sym e) room.run_room))
      ∙ ap (λ (v : List ℕ). search.found v (packed L.size (safe_states L) keep) run) e
      ∙ ap (λ (k : List ℕ). search.found w k run) (kept_is keep)

  search_start_refused : at K 0 ≡ false → (keep : List ℕ) (back line : ℕ) (run : List ℕ)
      → Room n m 0 keep back line run
      → search_systems L R keep back line run ≡ search.refused (start_not_safe 0) (packed n K keep) run
  unfolding search_systems
  search_start_refused unsafe_start keep back line run room =
      at_third (ltb (length keep) (bytes_for L.size))
      (ltb back (L.size * R.size) || ltb line (L.size * R.size)) (not (safe L L.start))
      (search.refused (keep_too_short (bytes_for L.size)) keep run)
      (search.refused (queue_too_short (L.size * R.size)) keep run)
      (search.refused (start_not_safe L.start) (packed L.size (safe_states L) keep) run)
      (cond (ltb (length run) (length (search_run L R)))
      (search.refused (run_too_short (length (search_run L R))) (packed L.size (safe_states L) keep) run)
      (search.found (search_run L R) (packed L.size (safe_states L) keep) run))
      (keep_long keep room.keep_room)
      (either_false (ltb back (L.size * R.size)) (ltb line (L.size * R.size)) (pairs_long back room.back_room)
      (pairs_long line room.line_room))
      (start_is false unsafe_start)
      ∙ ap (λ (i : ℕ). search.refused (start_not_safe i) (packed L.size (safe_states L) keep) run) F.start
      ∙ ap (λ (k : List ℕ). search.refused (start_not_safe 0) k run) (kept_is keep)

  widest_start_refused : at K 0 ≡ false → (keep table : List ℕ) → bytes_for n ≤ length keep
      → table_bytes m n ≤ length table
      → widest_systems L R keep table ≡ widest_refused (start_not_safe 0) (packed n K keep) table
  unfolding widest_systems
  widest_start_refused unsafe_start keep table h k =
      at_third (ltb (length keep) (bytes_for L.size)) (ltb (length table) (table_bytes R.size L.size))
      (not (safe L L.start))
      (widest_refused (keep_too_short (bytes_for L.size)) keep table)
      (widest_refused (table_too_short (table_bytes R.size L.size)) keep table)
      (widest_refused (start_not_safe L.start) (packed L.size (safe_states L) keep) table) _
      (keep_long keep h) (table_long table k) (start_is false unsafe_start)
      ∙ ap (λ (i : ℕ). widest_refused (start_not_safe i) (packed L.size (safe_states L) keep) table) F.start
      ∙ ap (λ (k : List ℕ). widest_refused (start_not_safe 0) k table) (kept_is keep)

  check_start_refused : at K 0 ≡ false → (keep table : List ℕ) → bytes_for n ≤ length keep
      → fits m n table ≡ true
      → check_systems L R keep table ≡ check_refused (start_not_safe 0) (packed n K keep)
  unfolding check_systems
  check_start_refused unsafe_start keep table h form =
      at_third (ltb (length keep) (bytes_for L.size)) (not (fits R.size L.size table))
      (not (safe L L.start))
      (check_refused (keep_too_short (bytes_for L.size)) keep) (check_refused other_table keep)
      (check_refused (start_not_safe L.start) (packed L.size (safe_states L) keep)) _
      (keep_long keep h) (form_is table form) (start_is false unsafe_start)
      ∙ ap (λ (i : ℕ). check_refused (start_not_safe i) (packed L.size (safe_states L) keep)) F.start
      ∙ ap (check_refused (start_not_safe 0)) (kept_is keep)

  widest_found : (X : List Bool) → at K 0 ≡ true → widest L R ≡ X → (keep table : List ℕ)
      → bytes_for n ≤ length keep → table_bytes m n ≤ length table
      → widest_systems L R keep table ≡ record {
        answer = Ok (record { count = ones X; start = at X 0 });
        keep = packed n K keep;
        table = table_file n m X ++ drop (table_bytes m n) table;
      }
  unfolding widest_systems
  widest_found X safe_start e keep table h k =
      let result : ℕ → ℕ → ℕ → List Bool → List ℕ → Widened = λ p i j Y kept. record {
        answer = Ok (record { count = ones Y; start = at Y p });
        keep = kept;
        table = table_file i j Y ++ drop (table_bytes j i) table;
      } in
      past_three (ltb (length keep) (bytes_for L.size)) (ltb (length table) (table_bytes R.size L.size))
      (not (safe L L.start))
      (widest_refused (keep_too_short (bytes_for L.size)) keep table)
      (widest_refused (table_too_short (table_bytes R.size L.size)) keep table)
      (widest_refused (start_not_safe L.start) (packed L.size (safe_states L) keep) table)
      (result (L.start * R.size + R.start) L.size R.size (widest L R) (packed L.size (safe_states L) keep))
      (keep_long keep h)
      (table_long table k)
      (start_is true safe_start)
      ∙ ap (λ (p : ℕ). result p L.size R.size (widest L R) (packed L.size (safe_states L) keep))
      (start_pair L.start R.size R.start F.start F.right_start)
      ∙ ap (λ (i : ℕ). result 0 i R.size (widest L R) (packed L.size (safe_states L) keep)) F.size
      ∙ ap (λ (j : ℕ). result 0 n j (widest L R) (packed L.size (safe_states L) keep)) F.right_size
      ∙ ap (λ (Y : List Bool). result 0 n m Y (packed L.size (safe_states L) keep)) e
      ∙ ap (result 0 n m X) (kept_is keep)

  -- the table is one of n rows and m columns with the raster k, and it has the start pair
  check_found : (table k : List ℕ) (f : Result ⊤ FailedPair) → at K 0 ≡ true → fits m n table ≡ true
      → drop (header_bytes m n) table ≡ k
      → set_at m k 0 0 ≡ true → pairs_judged L R (set_at m k) ≡ f → (keep : List ℕ) → bytes_for n ≤ length keep
      → check_systems L R keep table ≡ record { answer = scanned m (ones (denoted n m k)) f; keep = packed n K keep }
  unfolding check_systems
  check_found table k f safe_start form e set j keep h =
      let behind : drop (header_bytes R.size L.size) table ≡ k =
      ap (λ (i : ℕ). drop (header_bytes R.size i) table) F.size
      ∙ ap (λ (i : ℕ). drop (header_bytes i n) table) F.right_size ∙ e in
      let result : ℕ → ℕ → List ℕ → Result ⊤ FailedPair → List ℕ
      → Checked = λ a b r g kept. record { answer = scanned b (ones (denoted a b r)) g; keep = kept } in
      let raster = drop (header_bytes R.size L.size) table in
      past_four (ltb (length keep) (bytes_for L.size)) (not (fits R.size L.size table))
      (not (safe L L.start)) (not (set_at R.size raster L.start R.start))
      (check_refused (keep_too_short (bytes_for L.size)) keep)
      (check_refused other_table keep)
      (check_refused (start_not_safe L.start) (packed L.size (safe_states L) keep))
      (check_refused (start_pair_not_set L.start R.start) (packed L.size (safe_states L) keep))
      (result L.size R.size raster (pairs_judged L R (set_at R.size raster)) (packed L.size (safe_states L) keep))
      (keep_long keep h)
      (form_is table form)
      (start_is true safe_start)
      (ap (λ (r : List ℕ). not (set_at R.size r L.start R.start)) behind
      ∙ ap (λ (i : ℕ). not (set_at i k L.start R.start)) F.right_size
      ∙ ap (λ (i : ℕ). not (set_at m k i R.start)) F.start
      ∙ ap (λ (i : ℕ). not (set_at m k 0 i)) F.right_start ∙ ap not set)
      ∙ ap (λ (r : List ℕ). result L.size R.size r (pairs_judged L R (set_at R.size r))
      (packed L.size (safe_states L) keep)) behind
      ∙ ap (λ (i : ℕ). result L.size i k (pairs_judged L R (set_at i k)) (packed L.size (safe_states L) keep)) F.right_size
      ∙ ap (λ (i : ℕ). result i m k (pairs_judged L R (set_at m k)) (packed L.size (safe_states L) keep)) F.size
      ∙ ap (λ (g : Result ⊤ FailedPair). result n m k g (packed L.size (safe_states L) keep)) j
      ∙ ap (result n m k f) (kept_is keep)

-- two known texts whose channels are equal
module _ {s u : List ℕ} {l r : Text} {n m : ℕ} {K J : List Bool} (x : Known s l n K) (y : Known u r m J)
    (e : unmatched s l u r ≡ Ok tt) where
  pub left_accepted : AcceptedText shortest_tick s
  left_accepted = ap answer_of x.read

  pub right_accepted : AcceptedText shortest_tick u
  right_accepted = ap answer_of y.read

  left_text : l ≡ text_of shortest_tick s
  left_text = ap text_in (sym x.read)

  right_text : r ≡ text_of shortest_tick u
  right_text = ap text_in (sym y.read)

  pub channels_equal : EqualChannels shortest_tick s u
  channels_equal = equal_when_nothing s (text_of shortest_tick s) u (text_of shortest_tick u)
      (named shortest_tick s left_accepted) (named shortest_tick u right_accepted)
      (subst (λ (t : Text). unmatched s t u (text_of shortest_tick u) ≡ Ok tt) left_text
      (subst (λ (t : Text). unmatched s l u t ≡ Ok tt) right_text e))

  abbrev pub compares : Compared shortest_tick s u
  compares = both shortest_tick s u left_accepted right_accepted channels_equal

  pub facts : Facts (left_system shortest_tick compares) (right_system shortest_tick compares) n m K
  unfolding system renumbered
  facts = record {
    size = ap state_count (sym left_text) ∙ x.size;
    right_size = ap state_count (sym right_text) ∙ y.size;
    start = ap start_state (sym left_text) ∙ x.start;
    right_start = ap start_state (sym right_text) ∙ y.start;
    safe = subst (λ (t : Text). (a : Accepted t) → safe_states (system t a) ≡ K) left_text x.safe
        compares.left_text;
  }

  -- what holds of the records holds of the texts
  pub of_texts : (P : (l r : Text) → Pair s u l r → Type 0) → ((p : Pair s u l r) → P l r p)
      → P (text_of shortest_tick s) (text_of shortest_tick u) (record
      { left_text = compares.left_text; right_text = compares.right_text; inputs = compares.inputs })
  of_texts P f =
      subst (λ (t : Text). (p : Pair s u t (text_of shortest_tick u)) → P t (text_of shortest_tick u) p) left_text
      (subst (λ (t : Text). (p : Pair s u l t) → P l t p) right_text f)
      (record { left_text = compares.left_text; right_text = compares.right_text; inputs = compares.inputs })

  -- the left's start is not safe
  pub search_unsafe : at K 0 ≡ false → (keep : List ℕ) (back line : ℕ) (run : List ℕ)
      → Room n m 0 keep back line run
      → search_outcome shortest_tick s u keep back line run ≡ search.refused (start_not_safe 0) (packed n K keep) run
  search_unsafe unsafe keep back line run room =
      search_is shortest_tick s u left_accepted right_accepted channels_equal keep back line run
      ∙ search_start_refused facts unsafe keep back line run room

  pub check_unsafe : at K 0 ≡ false → (keep table : List ℕ) → bytes_for n ≤ length keep → fits m n table ≡ true
      → check_outcome shortest_tick s u keep table ≡ check_refused (start_not_safe 0) (packed n K keep)
  check_unsafe unsafe keep table h form =
      check_is shortest_tick s u left_accepted right_accepted channels_equal keep table
      ∙ check_start_refused facts unsafe keep table h form

  pub widest_unsafe : at K 0 ≡ false → (keep table : List ℕ) → bytes_for n ≤ length keep
      → table_bytes m n ≤ length table
      → widest_outcome shortest_tick s u keep table ≡ widest_refused (start_not_safe 0) (packed n K keep) table
  widest_unsafe unsafe keep table h k =
      widest_is shortest_tick s u left_accepted right_accepted channels_equal keep table
      ∙ widest_start_refused facts unsafe keep table h k

  -- it is safe: the run, the widest table and what the scan finds are computed
  pub searched : at K 0 ≡ true → (w : List ℕ) → ((p : Pair s u l r) → search_run (left_of p) (right_of p) ≡ w)
      → Searches s u n m (length w) w
  searched safe_start w run_is keep back line run room =
      let o : search_outcome shortest_tick s u keep back line run ≡ search.found w (packed n K keep) run =
      search_is shortest_tick s u left_accepted right_accepted channels_equal keep back line run
      ∙ search_found facts w safe_start (of_texts (λ l r p. search_run (left_of p) (right_of p) ≡ w) run_is) keep back
      line run room in
      (ap (λ (x : search.Outcome). x.answer) o, ap (λ (x : search.Outcome). x.run) o)

  pub widened : at K 0 ≡ true → (X : List Bool)
      → widest (left_system shortest_tick compares) (right_system shortest_tick compares) ≡ X
      → (keep table : List ℕ) → bytes_for n ≤ length keep → table_bytes m n ≤ length table
      → widest_outcome shortest_tick s u keep table ≡ record {
        answer = Ok (record { count = ones X; start = at X 0 });
        keep = packed n K keep;
        table = table_file n m X ++ drop (table_bytes m n) table;
      }
  widened safe_start X is keep table h k =
      widest_is shortest_tick s u left_accepted right_accepted channels_equal keep table
      ∙ widest_found facts X safe_start is keep table h k

  pub checked : at K 0 ≡ true → (table k : List ℕ) (f : Result ⊤ FailedPair) → fits m n table ≡ true
      → drop (header_bytes m n) table ≡ k → set_at m k 0 0 ≡ true
      → ((p : Pair s u l r) → pairs_judged (left_of p) (right_of p) (set_at m k) ≡ f)
      → (keep : List ℕ) → bytes_for n ≤ length keep
      → check_outcome shortest_tick s u keep table
      ≡ record { answer = scanned m (ones (denoted n m k)) f; keep = packed n K keep }
  checked safe_start table k f form behind set judged keep h =
      check_is shortest_tick s u left_accepted right_accepted channels_equal keep table
      ∙ check_found facts table k f safe_start form behind set
      (of_texts (λ l r p. pairs_judged (left_of p) (right_of p) (set_at m k) ≡ f) judged) keep h
