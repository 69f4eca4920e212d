-- What program megzhoi's lines mean: for any two files, what it prints is one of the answers of specs/Answers.antt
-- (SPECIFICATION 17.5). A theorem from SPECIFICATION 17.1 to 17.3.
use Rattle.std.specs.Prelude.{◌≡◌, length, Ok}
use Rattle.std.proofs.Math.Path.{refl, ap, subst}
use Rattle.std.proofs.Common.{sym, ◌∙◌, ne_eqb, take_all}
use Rattle.std.proofs.Math.Logic.{⊎_elim}
use Rattle.std.proofs.Math.Bool.{Bool, true}
use Rattle.std.proofs.Math.Option.{Option, none, some}
use mathlib.Core.List.{List, [], ◌∷◌, ◌++◌}
use Prim.Native.Nat.{ℕ, ◌*◌, ◌≤◌, ◌<◌}
use native.Mathlib.Omega.{arith}
use Rattle.std.proofs.Math.ListN.{take}
use Rattle.limits.specs.Limits.{keep_limit}
use Rattle.refusals.specs.declared.Refusal.{Refusal}
use Rattle.systems.specs.Bools.{T_true}
use Rattle.systems.specs.Definitions.{LargestSafeSet, ShortestDeparture}
use Rattle.bitmaps.specs.Packed.{bytes_for}
use Rattle.bitmaps.specs.BitLaws.{less}
use Rattle.two_texts.specs.Two.{text_of, two_judged}
use Rattle.search.specs.Outcome.{Outcome}
use Rattle.two_operations.specs.Outcome.{search_outcome, widest_outcome}
use Rattle.demands.specs.Words.{Consistent}
use Rattle.demands.proofs.Long.{no_refusal}
use Rattle.demands.specs.Demands.{SearchDemand}
use Rattle.demands.specs.Answers.{SearchAnswers, WidestAnswers}
use Rattle.guarantees.specs.Texts.{AcceptedText, EqualChannels, states, meaning, number, right_meaning, right_number}
use Rattle.guarantees.proofs.Guarantees.{safe_states_exist, texts_judged, search_judged, demand_1_search, demand_1_widest, demand_2_widest, demand_3}
use Rattle.byte_slices.specs.Decimal.{ascii}
use Rattle.printed_lines.specs.Lines.{line, step_lines, departure_lines}
use Rattle.printed.specs.Prints.{program_tick, zeros, entries, counted_bytes, widest_line, search_lines, megzhoi_prints}
use Rattle.printed.specs.Fits.{zeros_length, few_read}
use Rattle.program_answers.specs.Answers.{Answers, AllSatisfy}
use Rattle.program_answers.proofs.Fits.{table_few}

-- two accepted texts with equal channels
module _ (left right : List ℕ) (a : AcceptedText program_tick left) (b : AcceptedText program_tick right)
    (e : EqualChannels program_tick left right) where
  -- the search as the program calls it, with some run
  abbrev searched : List ℕ → Outcome
  searched run = search_outcome program_tick left right (zeros keep_limit) entries entries run

  abbrev Cases : List ℕ → Type 1
  Cases run = SearchAnswers (meaning program_tick left a) (right_meaning program_tick left right b)
      (states program_tick left) (states program_tick right) (number program_tick left a)
      (right_number program_tick left right b) (zeros keep_limit) entries entries run (searched run)

  abbrev Demand : List ℕ → Type 1
  Demand run = SearchDemand (meaning program_tick left a) (right_meaning program_tick left right b)
      (states program_tick left) (states program_tick right) (number program_tick left a)
      (right_number program_tick left right b) (zeros keep_limit) run (searched run)

  keep_long : bytes_for (states program_tick left) ≤ length (zeros keep_limit)
  keep_long = omega (arith, few_read left, zeros_length keep_limit)

  -- a search that gives a number gives it as SPECIFICATION 17.3 says
  by_number : Consistent (meaning program_tick left a) → (run : List ℕ) (n : ℕ) → (searched run).answer
      ≡ Ok n
      → Demand run
  by_number c run n f = demand_3 program_tick left right a b e c (zeros keep_limit) entries entries run
      (no_refusal _ n f)

  module _ (few : states program_tick left * states program_tick right ≤ entries) where
    -- a shortest departure is no longer than there are pairs
    departure_few : Consistent (meaning program_tick left a) → (w : List ℕ)
        → ((S : (meaning program_tick left a).State → Type 0) → LargestSafeSet (meaning program_tick left a) S
        → ShortestDeparture (meaning program_tick left a) (right_meaning program_tick left right b) S w)
        → length w ≤ states program_tick left * states program_tick right
    departure_few c w short =
        go (demand_1_search program_tick left right a b e (zeros keep_limit) entries entries (zeros (length w)))
      where
        go : Cases (zeros (length w)) → length w ≤ states program_tick left * states program_tick right
        go (SearchAnswers.thirteen h o) = absurd (omega (arith, h, keep_long))
        go (SearchAnswers.fifteen k h o) = absurd (⊎_elim (λ x. omega (arith, x, few)) (λ x. omega (arith, x, few)) h)
        go (SearchAnswers.seventeen k i j h o r s) = absurd (h c)
        go (SearchAnswers.twenty_one k i j d v h least o r s) =
            let (S, largest) = safe_states_exist program_tick left a in
            absurd (omega (
              arith,
              h,
              zeros_length (length w),
              (least S largest).shortest w (short S largest).departure,
            ))
        go (SearchAnswers.found k i j d n f h) =
            let (S, largest) = safe_states_exist program_tick left a in
            let y = by_number c (zeros (length w)) n f in
            ⊎_elim
            (λ (m : 0 < y.n). omega (
              arith,
              y.written,
              y.bounded,
              (short S largest).shortest (take y.n (searched (zeros (length w))).run) (y.shortest S largest m).departure,
            ))
            (λ (m : y.n ≤ 0). absurd (y.none_left S largest (omega arith) w (short S largest).departure))
            (less 0 y.n)

    -- YES: the table is made, and the start pair is in it
    yes_answer : Consistent (meaning program_tick left a) → AllSatisfy left right a b → Answers left right
        (widest_line (widest_outcome program_tick left right (zeros keep_limit) (zeros counted_bytes)).answer)
    unfolding widest_line
    yes_answer c all = go (demand_1_widest program_tick left right a b e (zeros keep_limit) (zeros counted_bytes))
      where
        go : WidestAnswers (meaning program_tick left a) (right_meaning program_tick left right b)
            (states program_tick left) (states program_tick right) (number program_tick left a)
            (right_number program_tick left right b) (zeros keep_limit) (zeros counted_bytes)
            (widest_outcome program_tick left right (zeros keep_limit) (zeros counted_bytes))
            → Answers left right (widest_line
            (widest_outcome program_tick left right (zeros keep_limit) (zeros counted_bytes)).answer)
        go (WidestAnswers.thirteen h o) = absurd (omega (arith, h, keep_long))
        go (WidestAnswers.fourteen k h o) = absurd (omega (
          arith,
          h,
          zeros_length counted_bytes,
          table_few (states program_tick right) (states program_tick left) (few_read right) (few_read left) few,
        ))
        go (WidestAnswers.seventeen k t h o r s) = absurd (h c)
        go (WidestAnswers.written k t d n start f) =
            let y = demand_2_widest program_tick left right a b e c (zeros keep_limit) (zeros counted_bytes)
            (no_refusal _ _ f) in
            let is : (widest_outcome program_tick left right (zeros keep_limit) (zeros counted_bytes)).answer
            ≡ Ok (record { count = y.count; start = true })
            = y.answer ∙ ap (λ (start : Bool). Ok (record { count = y.count; start = start }))
            (T_true y.start (y.start_means.1 all)) in
            Answers.yes a b e few c all y.count is (ap widest_line is)

    -- NO: the steps that are written
    no_lines : (n : ℕ) (run : List ℕ) → 0 < n → length (take n run) ≡ n
        → search_lines left right (Ok n) run
        ≡ departure_lines left (text_of program_tick left).channels (length (take n run)) (take n run)
    unfolding search_lines departure_lines
    no_lines n run m l =
        rw (ne_eqb n 0 (λ z. omega (arith, z)), l)
        (ap (λ (w : List ℕ). line (ascii "NO") (n ∷ []) ++ step_lines left (text_of program_tick left).channels w)
        (sym (take_all n (take n run) (omega (arith, l)))))

    counted_answer : Consistent (meaning program_tick left a) → (n : ℕ) → (searched (zeros entries)).answer
        ≡ Ok n
        → Answers left right (megzhoi_prints left right)
    unfolding megzhoi_prints
    counted_answer c n f =
        let y = by_number c (zeros entries) n f in
        let run = (searched (zeros entries)).run in
        let w = take y.n run in
        ⊎_elim
        (λ (m : 0 < y.n). Answers.no a b e few w (y.made m)
        (λ v (I, s, x, r). omega (arith, y.written, (y.at_least I s v x r).1))
        (ap (λ o. search_lines left right o run) y.answer ∙ no_lines y.n run m y.written))
        (λ (m : y.n ≤ 0).
        let z : y.n ≡ 0 = omega arith in
        subst (Answers left right) (sym (ap (λ o. search_lines left right o run) (y.answer ∙ ap Ok z) ∙ yes_lines run))
        (yes_answer c (y.satisfied.0 z)))
        (less 0 y.n)
      where
        yes_lines : (run : List ℕ) → search_lines left right (Ok 0) run
            ≡ widest_line (widest_outcome program_tick left right (zeros keep_limit) (zeros counted_bytes)).answer
        yes_lines run = unfold search_lines in refl

  -- the cases of SPECIFICATION 17.1, those that the program's slices leave
  accepted_answer : Answers left right (megzhoi_prints left right)
  unfolding megzhoi_prints search_lines
  accepted_answer = go (demand_1_search program_tick left right a b e (zeros keep_limit) entries entries
      (zeros entries))
    where
      shown : Outcome → List ℕ
      shown o = search_lines left right o.answer o.run

      go : Cases (zeros entries) → Answers left right (megzhoi_prints left right)
      go (SearchAnswers.thirteen h o) = absurd (omega (arith, h, keep_long))
      go (SearchAnswers.fifteen k h o) = Answers.too_many a b e (⊎_elim (λ x. x) (λ x. x) h) (ap shown o)
      go (SearchAnswers.seventeen k i j h o r s) =
          Answers.unsafe a b e i h (ap (λ x. search_lines left right x (searched (zeros entries)).run) o)
      go (SearchAnswers.twenty_one k i j c w h least o r s) =
          absurd (omega (arith, h, i, zeros_length entries, departure_few i c w least))
      go (SearchAnswers.found k i j c n f h) = counted_answer i c n f

-- for any two files
pub answers : (left right : List ℕ) → Answers left right (megzhoi_prints left right)
unfolding megzhoi_prints search_lines
answers left right = go (two_judged program_tick left right) refl
  where
    go : (o : Option Refusal) → two_judged program_tick left right ≡ o → Answers left right (megzhoi_prints left right)
    go (some r) q = Answers.judged r q (ap (λ (o : Outcome). search_lines left right o.answer o.run)
        (search_judged program_tick left right (zeros keep_limit) entries entries (zeros entries) r q))
    go none q = let (a, b, e) = (texts_judged program_tick left right).0 (sym q) in accepted_answer left right a b e
