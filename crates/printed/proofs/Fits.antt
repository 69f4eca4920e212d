-- What program megzhoi prints of a departure has room: the run has no more steps than entries were lent, each of its steps
-- is a step of the left, and a name of an accepted text is no longer than allowed.
use Rattle.std.specs.Prelude.{Result, Ok, Err}
use mathlib.Core.Path.{◌≡◌, refl, sym, ap, ◌∙◌}
use mathlib.Core.Logic.{⊎_elim}
use mathlib.Core.Bool.{Bool, true, false, cond, not, ◌||◌}
use mathlib.Core.Option.{Option, none as nothing, some}
use mathlib.Core.List.{List, [], ◌∷◌}
use Prim.Native.Nat.{ℕ, zero, suc, ◌-◌, ◌*◌, ◌≤◌, ◌<◌}
use native.Mathlib.Omega.{arith}
use lib.Dec.{T, ltb}
use lib.ListN.{length, get_or, take, drop, length-append, length-take}
use lib.Seq.{take_at}
use borrow.Author.Tests.{ltb-false, ne_eqb}
use Rattle.limits.specs.Limits.{largest_name, keep_limit}
use Rattle.refusals.specs.declared.Refusal.{Refusal}
use Rattle.refusals.specs.Refusals.{keep_too_short, queue_too_short, start_not_safe, run_too_short}
use Rattle.refusals.specs.Answers.{answer_of}
use Rattle.systems.specs.Definitions.{Signature, tick}
use Rattle.systems.specs.Finite.{FiniteSystem, safe, safe_states, pruned, search_run}
use Rattle.systems.proofs.Departure.{run, run_first, pruned_elim}
use Rattle.systems.proofs.Search.{search_result}
use Rattle.bitmaps.specs.Packed.{bytes_for, packed}
use Rattle.reader_record.specs.declared.Direction.{Direction}
use Rattle.reader_record.specs.declared.Direction.TheVariants as direction
use Rattle.reader_record.specs.declared.Channel.{Channel}
use Rattle.reader_record.specs.Record.{no_channel}
use Rattle.clocks.proofs.Contract.{signature}
use Rattle.clocks_read.specs.Reading.{read_outcome}
use Rattle.two_texts.specs.Two.{text_of, two_judged, left_system, right_system}
use Rattle.two_texts.proofs.Laws.{judged_none, compared, named, judged_by_none, judged_by_some}
use Rattle.byte_slices.specs.Decimal.{ascii}
use Rattle.search.specs.Outcome as search
use Rattle.search.specs.Outcome.{Outcome, search_systems}
use Rattle.two_operations.specs.Outcome.{search_outcome}
use Rattle.printed_lines.specs.Lines.{line, direction_mark, channel_line, step_line, step_lines, departure_lines}
use Rattle.printed_lines.specs.Room.{line_limit, step_bytes}
use Rattle.printed.specs.Prints.{program_tick, zeros, entries}
use Rattle.printed.specs.Room.{megzhoi_limit}
use Rattle.printed.specs.Fits.{zeros_length}

-- steps that are no larger than m
pub data Steps (m : ℕ) : List ℕ → Type 0 where
  none : Steps m []
  more : {c : ℕ} {w : List ℕ} → c ≤ m → Steps m w → Steps m (c ∷ w)

module _ {A : Signature} (L R : FiniteSystem A) where
  run_steps : (w : List ℕ) (s u : ℕ) → run (pruned L) s w ≡ some u → Steps A.channels w
  run_steps [] s u e = none
  run_steps (c ∷ w) s u e =
      let (t, f, g) = run_first (pruned L) s c u w e in
      more (L.next_known s c t (pruned_elim L s c t f).0) (run_steps w t u g)

  found_steps : T (safe L L.start) → Steps A.channels (search_run L R)
  found_steps h =
      ⊎_elim (λ n. rw n.0 none)
      (λ d. run_steps (search_run L R) L.start d.is_departure.left d.is_departure.made)
      (search_result L R h)

-- the outcome of the search: a refusal, or steps within m that fit the run
pub data Told (m : ℕ) (before : List ℕ) : Outcome → Type 0 where
  refused : {r : Refusal} {k after : List ℕ} → Told m before (record {
    answer = Err r;
    keep = k;
    run =
        after;
  })
  found : {k : List ℕ} (steps : List ℕ) → Steps m steps → length steps ≤ length before
      → Told m before (search.found steps k before)

systems_told : {A : Signature} (L R : FiniteSystem A) (keep : List ℕ) (back line : ℕ) (before : List ℕ)
    → Told A.channels before (search_systems L R keep back line before)
unfolding search_systems
systems_told {A} L R keep back line before =
    go (ltb (length keep) (bytes_for L.size)) (ltb back (L.size * R.size) || ltb line (L.size * R.size))
    (safe L L.start) refl (ltb (length before) (length (search_run L R))) refl
  where
    go : (a b c : Bool) → safe L L.start ≡ c → (d : Bool) → ltb (length before) (length (search_run L R)) ≡ d
        → Told A.channels before
        (cond a (search.refused (keep_too_short (bytes_for L.size)) keep before)
        (cond b (search.refused (queue_too_short (L.size * R.size)) keep before)
        (cond (not c) (search.refused (start_not_safe L.start) (packed L.size (safe_states L) keep) before)
        (cond d (search.refused (run_too_short (length (search_run L R))) (packed L.size (safe_states L) keep)
        before)
        (search.found (search_run L R) (packed L.size (safe_states L) keep) before)))))
    go true b c e d f = refused
    go false true c e d f = refused
    go false false false e d f = refused
    go false false true e true f = refused
    go false false true e false f =
        found (search_run L R) (found_steps L R (rw e tt)) (ltb-false (length before) (length (search_run L R)) f)

-- the lines of steps
mark_length : (d : Direction) → length (direction_mark d) ≡ 1
unfolding direction_mark
mark_length direction.Unused = refl
mark_length direction.Input = refl
mark_length direction.Output = refl

module _
    (s : List ℕ) (channels : List Channel) (m : ℕ)
    (names : (c : ℕ) → c < m → (get_or channels c no_channel).name.len ≤ largest_name) where
  channel_fits : (c : ℕ) → c < m → length (channel_line s (get_or channels c no_channel)) ≤ step_bytes
  unfolding channel_line
  channel_fits c l =
      let k = get_or channels c no_channel in
      simp length-append
      (omega (
        arith,
        length-take k.name.len (drop k.name.place s),
        names c l,
        mark_length k.direction,
      ))

  step_fits : (step : ℕ) → step ≤ m → length (step_line s channels step) ≤ step_bytes
  unfolding step_line
  step_fits zero l = omega arith
  step_fits (suc c) l = rw (ne_eqb (suc c) tick (λ e. omega arith)) (channel_fits (suc c - 1) (omega arith))

  steps_fit : {w : List ℕ} → Steps m w → length (step_lines s channels w) ≤ length w * step_bytes
  unfolding step_lines
  steps_fit none = omega arith
  steps_fit (more {c} {w} l rest) =
      simp length-append (omega (arith, step_fits c l, steps_fit rest))

-- the lines of a departure's steps
module _ (left right keep : List ℕ) (back line : ℕ) (before : List ℕ) where
  abbrev outcome : Outcome
  outcome = search_outcome program_tick left right keep back line before

  outcome_refused : (r : Refusal) → two_judged program_tick left right ≡ some r → outcome ≡ search.refused r keep before
  unfolding search_outcome
  outcome_refused r e = judged_by_some (two_judged program_tick left right) _ _ r e

  outcome_systems : (e : nothing ≡ two_judged program_tick left right)
      → outcome ≡ search_systems (left_system program_tick (compared program_tick left right e))
      (right_system program_tick (compared program_tick left right e)) keep back
      line before
  unfolding search_outcome
  outcome_systems e = judged_by_none (two_judged program_tick left right) _ _ e

  told_fits :
      {o : Outcome} {n : ℕ} → answer_of (read_outcome program_tick left) ≡ Ok tt
      → Told (text_of program_tick left).channel_count before o → o.answer ≡ Ok n
      → length (step_lines left (text_of program_tick left).channels (take n o.run)) ≤ length before * step_bytes
  told_fits a refused e = let z : ◌≡◌ {A = ℕ} 0 1 = cc in absurd (omega arith)
  told_fits {n = n} a (found steps l few) e =
      let same : length steps ≡ n = cc in
      rw (← same, take_at steps (drop (length steps) before) (length steps) refl)
      (omega (
        arith,
        steps_fit left (text_of program_tick left).channels (text_of program_tick left).channel_count
            (λ c i. ((named program_tick left a).within.channel c i).few) l,
      ))

  outcome_told : (e : nothing ≡ two_judged program_tick left right)
      → Told (text_of program_tick left).channel_count before outcome
  unfolding signature
  outcome_told e =
      rw (outcome_systems e)
      (systems_told (left_system program_tick (compared program_tick left right e))
      (right_system program_tick (compared program_tick left right e)) keep back line before)

  pub departure_fits :
      {n : ℕ} → outcome.answer ≡ Ok n
      → length (step_lines left (text_of program_tick left).channels (take n outcome.run)) ≤ length before
      * step_bytes
  departure_fits {n} f = go (two_judged program_tick left right) refl
    where
      go : (o : Option Refusal) → o ≡ two_judged program_tick left right
          → length (step_lines left (text_of program_tick left).channels (take n outcome.run)) ≤ length before
          * step_bytes
      go (some r) e =
          let q : ◌≡◌ {A = Result ℕ Refusal} (Err r) (Ok n) = sym (ap (λ (o : Outcome). o.answer) (outcome_refused r (sym
          e))) ∙ f in
          let z : ◌≡◌ {A = ℕ} 0 1 = cc in absurd (omega arith)
      go nothing e = told_fits (judged_none program_tick left right e).left_read (outcome_told e) f

-- the lines of a departure have room
pub departure_short :
    {a : Result ℕ Refusal} {k r keep before : List ℕ} {back queue n : ℕ} (left right : List ℕ)
    → ◌≡◌ {A = Outcome} (record { answer = a; keep = k; run = r })
    (search_outcome program_tick left right keep back queue before)
    → keep ≡ zeros keep_limit → back ≡ entries → queue ≡ entries → before ≡ zeros entries → a ≡ Ok n
    → length (line (ascii "NO") (n ∷ [])) ≤ line_limit
    → length (departure_lines left (text_of program_tick left).channels n r) ≤ megzhoi_limit
unfolding departure_lines
departure_short {r = r} {n = n} left right done e f g h is head =
    let o = rw (e, f, g, h) at done in
    let steps : length (step_lines left (text_of program_tick left).channels (take n r)) ≤ length
    (zeros entries) * step_bytes =
    rw (ap (λ (x : Outcome). x.run) o)
    (departure_fits left right (zeros keep_limit) entries entries (zeros entries)
    (sym (ap (λ (x : Outcome). x.answer) o) ∙ is)) in
    let both = length-append (line (ascii "NO") (n ∷ [])) (step_lines left (text_of program_tick left).channels (take n r)) in
    omega (arith, both, rw (zeros_length entries) at steps)
