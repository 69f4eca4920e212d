-- What SPECIFICATION 17.1 asks: which of the refusals 13 to 21 an operation gives, and what its numbers mean.
use Rattle.std.specs.Prelude.{◌≡◌, Bool, true, false, not, ◌||◌, cond, T, ltb, length, drop, Result, Ok, Err}
use Rattle.std.proofs.Math.Path.{refl}
use Rattle.std.proofs.Common.{sym, ap, subst, ◌∙◌, inl, inr, arith, ltb→lt, ltb-false}
use mathlib.Core.List.{List, ◌++◌}
use Prim.Native.Nat.{ℕ, ◌*◌, ◌<◌}
use Rattle.refusals.specs.declared.Refusal.{Refusal}
use Rattle.refusals.specs.Refusals.{keep_too_short, table_too_short, queue_too_short, other_table, start_not_safe, start_pair_not_set, run_too_short}
use Rattle.systems.specs.Tests.{ones}
use Rattle.systems.specs.Definitions.{Signature, System}
use Rattle.systems.specs.Finite.{FiniteSystem, Capping, safe, safe_states, search_run, widest, cell}
use Rattle.systems.proofs.Theorems.{safe_states_largest, implementation_iff, search_shortest}
use Rattle.bitmaps.specs.Packed.{bytes_for, packed}
use Rattle.search.specs.Outcome as search
use Rattle.search.specs.Outcome.{search_systems}
use Rattle.tables_header.specs.Header.{header_bytes, table_bytes, fits}
use Rattle.tables_rows.specs.Raster.{set_at, denoted}
use Rattle.tables_check.specs.Judged.{pairs_judged}
use Rattle.tables_whole.specs.TableFile.{table_file}
use Rattle.tables.specs.Outcome.{Checked, check_refused, scanned, check_systems, Widened, widest_refused, widest_systems}
use Rattle.demands.specs.Words.{Consistent, Keeps, KeepWritten, Denotes}
use Rattle.demands.specs.Answers.{SearchAnswers, CheckAnswers, WidestAnswers}
use Rattle.demands.specs.Answers.SearchAnswers.{thirteen, fifteen, seventeen, twenty_one, found}
use Rattle.demands.proofs.Same.{shortest_same, passes_same, pair_fails_same, step_fails_same}
use Rattle.demands.proofs.Kept.{keeps}
use Rattle.demands.proofs.Faults.{Lowest, lowest}

-- a test that holds
less_when : (m n : ℕ) → ltb m n ≡ true → m < n
less_when m n e = ltb→lt m n (subst T (sym e) tt)

module _ {A : Signature} {M N : System A} {L R : FiniteSystem A} (C : Capping M L) (D : Capping N R) where
  start_number : L.start ≡ C.cap M.start
  start_number = sym C.starts

  some_implementation : safe L L.start ≡ true → Consistent M
  some_implementation t = (implementation_iff C).1 (subst T (sym t) tt)

  no_implementation : safe L L.start ≡ false → Consistent M → ⊥
  no_implementation f i = subst T f ((implementation_iff C).0 i)

  -- the safe states are what keep holds then
  written_in : (keep after : List ℕ) → ltb (length keep) (bytes_for L.size) ≡ false
      → after ≡ packed L.size (safe_states L) keep → KeepWritten M L.size C.cap keep after
  written_in keep after f e S h = subst (Keeps L.size C.cap S keep) (sym e) (keeps C S h keep f)

  -- the search
  pub search_answered : (keep : List ℕ) (back line : ℕ) (run : List ℕ)
      → SearchAnswers M N L.size R.size C.cap D.cap keep back line run
      (search_systems L R keep back line run)
  unfolding search_systems
  search_answered keep back line run =
      go (search_systems L R keep back line run) (ltb (length keep) (bytes_for L.size)) (ltb back pairs)
      (ltb line pairs) (safe L L.start) (ltb (length run) (length steps))
      refl refl refl refl refl refl
    where
      pairs : ℕ
      pairs = L.size * R.size

      steps : List ℕ
      steps = search_run L R

      kept : List ℕ
      kept = packed L.size (safe_states L) keep

      go : (o : search.Outcome) (p q r s t : Bool) → ltb (length keep) (bytes_for L.size) ≡ p → ltb back pairs ≡ q
          → ltb line pairs ≡ r
          → safe L L.start ≡ s → ltb (length run) (length steps) ≡ t
          → o ≡ cond p (search.refused (keep_too_short (bytes_for L.size)) keep run)
          (cond (q || r) (search.refused (queue_too_short pairs) keep run)
          (cond (not s) (search.refused (start_not_safe L.start) kept run)
          (cond t (search.refused (run_too_short (length steps)) kept run) (search.found steps kept run))))
          → SearchAnswers M N L.size R.size C.cap D.cap keep back line run o
      go o true q r s t ep eq er es et z = thirteen (less_when (length keep) (bytes_for L.size) ep) z
      go o false true r s t ep eq er es et z = fifteen (ltb-false (length keep) (bytes_for L.size) ep)
          (inl (less_when back pairs eq)) z
      go o false false true s t ep eq er es et z = fifteen (ltb-false (length keep) (bytes_for L.size) ep)
          (inr (less_when line pairs er)) z
      go o false false false false t ep eq er es et z = seventeen (ltb-false (length keep) (bytes_for L.size) ep)
          (ltb-false back pairs eq) (ltb-false line pairs er) (no_implementation es)
          (ap (λ (x : search.Outcome). x.answer) z
          ∙ ap (λ (n : ℕ). Err (start_not_safe n)) start_number)
          (ap (λ (x : search.Outcome). x.run) z)
          (written_in keep o.keep ep (ap (λ (x : search.Outcome). x.keep) z))
      go o false false false true true ep eq er es et z = twenty_one (ltb-false (length keep) (bytes_for L.size) ep)
          (ltb-false back pairs eq) (ltb-false line pairs er) (some_implementation es)
          steps (less_when (length run) (length steps) et)
          (λ S h. shortest_same (safe_states_largest C) h steps (search_shortest C D (subst T (sym es) tt)
          (λ y. let m : length steps ≡ 0 = ap length y in omega (arith, less_when (length run) (length steps) et))))
          (ap (λ (x : search.Outcome). x.answer) z) (ap (λ (x : search.Outcome). x.run) z)
          (written_in keep o.keep ep (ap (λ (x : search.Outcome). x.keep) z))
      go o false false false true false ep eq er es et z = found (ltb-false (length keep) (bytes_for L.size) ep)
          (ltb-false back pairs eq) (ltb-false line pairs er) (some_implementation es) (length steps)
          (ap (λ (x : search.Outcome). x.answer) z) (ltb-false (length run) (length steps) et)

  -- the widest table
  pub widest_answered : (keep given : List ℕ)
      → WidestAnswers M N L.size R.size C.cap D.cap keep given (widest_systems L R keep given)
  unfolding widest_systems
  widest_answered keep given =
      go (widest_systems L R keep given) (ltb (length keep) (bytes_for L.size)) (ltb (length given) needed)
      (safe L L.start) refl refl refl refl
    where
      needed : ℕ
      needed = table_bytes R.size L.size

      kept : List ℕ
      kept = packed L.size (safe_states L) keep

      done : Widened
      done = record {
        answer = Ok (record { count = ones (widest L R); start = cell L R (widest L R) L.start R.start });
        keep = kept;
        table = table_file L.size R.size (widest L R) ++ drop needed given;
      }

      go : (o : Widened) (p q s : Bool) → ltb (length keep) (bytes_for L.size) ≡ p → ltb (length given) needed ≡ q
          → safe L L.start ≡ s
          → o ≡ cond p (widest_refused (keep_too_short (bytes_for L.size)) keep given)
          (cond q (widest_refused (table_too_short needed) keep given)
          (cond (not s) (widest_refused (start_not_safe L.start) kept given) done))
          → WidestAnswers M N L.size R.size C.cap D.cap keep given o
      go o true q s ep eq es z = WidestAnswers.thirteen (less_when (length keep) (bytes_for L.size) ep) z
      go o false true s ep eq es z = WidestAnswers.fourteen (ltb-false (length keep) (bytes_for L.size) ep)
          (less_when (length given) needed eq) z
      go o false false false ep eq es z = WidestAnswers.seventeen (ltb-false (length keep) (bytes_for L.size) ep)
          (ltb-false (length given) needed eq) (no_implementation es)
          (ap (λ (x : Widened). x.answer) z ∙ ap (λ (n : ℕ). Err (start_not_safe n)) start_number)
          (ap (λ (x : Widened). x.table) z)
          (written_in keep o.keep ep (ap (λ (x : Widened). x.keep) z))
      go o false false true ep eq es z = WidestAnswers.written (ltb-false (length keep) (bytes_for L.size) ep)
          (ltb-false (length given) needed eq) (some_implementation es) (ones (widest L R))
          (cell L R (widest L R) L.start R.start) (ap (λ (x : Widened). x.answer) z)

  -- the check
  module _ (keep given : List ℕ) where
    abbrev related : ℕ → ℕ → Bool
    related = set_at R.size (drop (header_bytes R.size L.size) given)

    abbrev count : ℕ
    count = ones (denoted L.size R.size (drop (header_bytes R.size L.size) given))

    abbrev Given : M.State → N.State → Type 0
    Given = Denotes L.size R.size C.cap D.cap given

    start_set : related L.start R.start ≡ true → Given M.start N.start
    start_set t = rw (C.starts, D.starts) (L.start_state.0, R.start_state.0, subst T (sym t) tt)

    start_unset : related L.start R.start ≡ false → Given M.start N.start → ⊥
    start_unset t (x, y, z) = subst T t (rw (C.starts, D.starts) at z)

    pub check_answered : CheckAnswers M N L.size R.size C.cap D.cap keep given
        (check_systems L R keep given)
    unfolding check_systems
    check_answered =
        go (check_systems L R keep given) (ltb (length keep) (bytes_for L.size)) (fits R.size L.size given)
        (safe L L.start) (related L.start R.start) refl refl refl refl refl
      where
        kept : List ℕ
        kept = packed L.size (safe_states L) keep

        answer : Result ℕ Refusal
        answer = scanned R.size count (pairs_judged L R related)

        go : (o : Checked) (p q s t : Bool) → ltb (length keep) (bytes_for L.size) ≡ p
            → fits R.size L.size given ≡ q → safe L L.start ≡ s
            → related L.start R.start ≡ t
            → o ≡ cond p (check_refused (keep_too_short (bytes_for L.size)) keep)
            (cond (not q) (check_refused other_table keep)
            (cond (not s) (check_refused (start_not_safe L.start) kept)
            (cond (not t) (check_refused (start_pair_not_set L.start R.start) kept)
            (record { answer = answer; keep = kept }))))
            → CheckAnswers M N L.size R.size C.cap D.cap keep given o
        go o true q s t ep eq es et z = CheckAnswers.thirteen (less_when (length keep) (bytes_for L.size) ep) z
        go o false false s t ep eq es et z = CheckAnswers.sixteen
            (ltb-false (length keep) (bytes_for L.size) ep) (λ h. subst T eq h) z
        go o false true false t ep eq es et z = CheckAnswers.seventeen
            (ltb-false (length keep) (bytes_for L.size) ep) (subst T (sym eq) tt) (no_implementation es)
            (ap (λ (x : Checked). x.answer) z ∙ ap (λ (n : ℕ). Err (start_not_safe n)) start_number)
            (written_in keep o.keep ep (ap (λ (x : Checked). x.keep) z))
        go o false true true false ep eq es et z = CheckAnswers.eighteen
            (ltb-false (length keep) (bytes_for L.size) ep) (subst T (sym eq) tt) (some_implementation es)
            (start_unset et)
            (ap (λ (x : Checked). x.answer) z
            ∙ ap (λ (n : ℕ). Err (start_pair_not_set n R.start)) start_number
            ∙ ap (λ (n : ℕ). Err (start_pair_not_set (C.cap M.start) n)) (sym D.starts))
            (written_in keep o.keep ep (ap (λ (x : Checked). x.keep) z))
        go o false true true true ep eq es et z = told (lowest C D related R.size count)
          where
            told : Lowest C D related R.size count answer
                → CheckAnswers M N L.size R.size C.cap D.cap keep given o
            told (Lowest.nineteen x y f e) = CheckAnswers.nineteen
                (ltb-false (length keep) (bytes_for L.size) ep) (subst T (sym eq) tt) (some_implementation es)
                (start_set et) x y (λ S h. pair_fails_same (safe_states_largest C) h Given C.cap D.cap x y f)
                (ap (λ (x : Checked). x.answer) z ∙ e)
                (written_in keep o.keep ep (ap (λ (x : Checked). x.keep) z))
            told (Lowest.twenty x y c f e) = CheckAnswers.twenty
                (ltb-false (length keep) (bytes_for L.size) ep) (subst T (sym eq) tt) (some_implementation es)
                (start_set et) x y c (λ S h. step_fails_same (safe_states_largest C) h Given C.cap D.cap x y c f)
                (ap (λ (x : Checked). x.answer) z ∙ e)
                (written_in keep o.keep ep (ap (λ (x : Checked). x.keep) z))
            told (Lowest.passing_all f e) = CheckAnswers.accepted
                (ltb-false (length keep) (bytes_for L.size) ep) (subst T (sym eq) tt) (some_implementation es)
                (start_set et) (λ S h x y g. passes_same (safe_states_largest C) h Given x y (f x y g))
                (ap (λ (x : Checked). x.answer) z ∙ e)
                (written_in keep o.keep ep (ap (λ (x : Checked). x.keep) z))
