-- Slices of the sizes that `Sizes` defines are long enough (SPECIFICATION 12.8, 15.3): for accepted texts, sized by the
-- numbers of states that reading returns, no call returns 13, 14, 15 or 21.
use Rattle.std.specs.Prelude.{◌≡◌, true, List, ℕ, ◌*◌, ◌≤◌, ◌<◌, Result, Ok, Err}
use Rattle.std.proofs.Math.Path.{refl, sym}
use Rattle.std.proofs.Math.Option.{none}
use native.Mathlib.Omega.{arith}
use Rattle.std.proofs.Common.{le-leb, ne_eqb}
use Rattle.std.proofs.Math.ListN.{length}
use Rattle.limits.specs.Limits.{state_limit}
use Rattle.refusals.specs.declared.Refusal.{Refusal}
use Rattle.refusals.specs.Refusals.{keep_too_short, table_too_short, queue_too_short, run_too_short}
use Rattle.refusals.specs.Answers.{answer_of}
use Rattle.systems.specs.Renumbered.{renumbered}
use Rattle.bitmaps.specs.Packed.{bytes_for}
use Rattle.clocks.specs.States.{state_count}
use Rattle.clocks.proofs.Judgement.{judgement_few}
use Rattle.clocks.proofs.Contract.{system}
use Rattle.clocks_read.specs.declared.Reading.{Reading}
use Rattle.clocks_read.specs.Reading.{read_outcome, text_in, states_in}
use Rattle.clocks_read.specs.Laws.{read_accepted}
use Rattle.safe_states.specs.Outcome.{safe_outcome, answered, kept_outcome}
use Rattle.two_texts.specs.Two.{two_judged, left_system, right_system}
use Rattle.two_texts.proofs.Laws.{compared, judged_none, judged_by_none}
use Rattle.tables_header.specs.Header.{table_bytes}
use Rattle.tables.specs.Outcome.{check_refused, check_systems, widest_refused, widest_systems}
use Rattle.search.specs.Outcome.{refused, search_systems}
use Rattle.two_operations.specs.Outcome.{search_outcome, check_outcome, widest_outcome}
use Rattle.megzhoi_c.specs.Returned.{of_safe, of_search, of_check, of_widest, ReturnsNo}
use Rattle.megzhoi_c.specs.Sizes.{possible, keep_needed, table_needed, queue_needed}
use Rattle.megzhoi_c.proofs.EnoughLaws.{Short, kept, searched, searched_run, checked, widened}

-- a count within the limits is possible
within : (n : ℕ) → 0 < n → n ≤ state_limit → possible n ≡ true
unfolding possible
within n some few = rw (ne_eqb n 0 (λ e. omega arith), le-leb n state_limit few)

-- the sizes for possible counts
keep_is : (n : ℕ) → possible n ≡ true → keep_needed n ≡ bytes_for n
unfolding keep_needed
keep_is n p = rw p

table_is : (n w : ℕ) → possible n ≡ true → possible w ≡ true → table_needed n w ≡ table_bytes w n
unfolding table_needed
table_is n w p q = rw (p, q)

queue_is : (n w : ℕ) → possible n ≡ true → possible w ≡ true → queue_needed n w ≡ n * w
unfolding queue_needed
queue_is n w p q = rw (p, q)

-- an accepted text's safe states go by its record
answered_accepted : (r : Result Reading Refusal) (keep : List ℕ) → answer_of r ≡ Ok tt
    → answered r keep ≡ kept_outcome (text_in r) keep
unfolding answered
answered_accepted (Ok r) keep e = refl
answered_accepted (Err f) keep e = let z : ◌≡◌ {A = ℕ} 0 1 = cc in absurd (omega arith)

module _ (period : ℕ) where
  -- an accepted text
  module _ (s : List ℕ) (a : answer_of (read_outcome period s) ≡ Ok tt) where
    -- the number of its states is possible: its start is a state, and 9 does not apply
    pub accepted_possible : possible (states_in (read_outcome period s)) ≡ true
    unfolding system
    accepted_possible =
        let r = read_accepted period s a in
        let t = text_in (read_outcome period s) in
        let start = (system t r.accepted).start_state.0 in
        rw r.states (within (state_count t) (omega (arith, start)) (judgement_few t r.accepted.clean))

    -- safe states: not 13
    pub safe_enough : (keep : List ℕ) → keep_needed (states_in (read_outcome period s)) ≤ length keep
        → ReturnsNo keep_too_short (of_safe (safe_outcome period s keep).answer)
    unfolding safe_outcome
    safe_enough keep k =
        let r = read_accepted period s a in
        let t = text_in (read_outcome period s) in
        let long : bytes_for (state_count t) ≤ length keep = rw
        (sym r.states, sym (keep_is _ accepted_possible)) k in
        rw (answered_accepted (read_outcome period s) keep a) (kept t keep long)

  -- two texts of which codes 24 and 1 to 12 find nothing
  module _ (left right : List ℕ) (e : none ≡ two_judged period left right) where
    abbrev left_states : ℕ
    left_states = states_in (read_outcome period left)

    abbrev right_states : ℕ
    right_states = states_in (read_outcome period right)

    left_size : (left_system period (compared period left right e)).size ≡ left_states
    unfolding system
    left_size = sym (read_accepted period left (judged_none period left right e).left_read).states

    right_size : (right_system period (compared period left right e)).size ≡ right_states
    unfolding system renumbered
    right_size = sym (read_accepted period right (judged_none period left right e).right_read).states

    left_possible : possible left_states ≡ true
    left_possible = accepted_possible left (judged_none period left right e).left_read

    right_possible : possible right_states ≡ true
    right_possible = accepted_possible right (judged_none period left right e).right_read

    keep_long : (keep : List ℕ) → keep_needed left_states ≤ length keep
        → bytes_for (left_system period (compared period left right e)).size ≤ length keep
    keep_long keep k = rw (left_size, sym (keep_is left_states left_possible)) k

    queue_long : (entries : ℕ) → queue_needed left_states right_states ≤ entries
        → (left_system period (compared period left right e)).size * (right_system period
        (compared period left right e)).size ≤ entries
    queue_long entries q =
        rw (left_size, right_size, sym (queue_is left_states right_states left_possible right_possible)) q

    table_long : (table : List ℕ) → table_needed left_states right_states ≤ length table
        → table_bytes (right_system period (compared period left right e)).size
        (left_system period (compared period left right e)).size
        ≤ length table
    table_long table t =
        rw (left_size, right_size, sym (table_is left_states right_states left_possible right_possible)) t

    -- the search: not 13, 15 or 21
    module _ (keep : List ℕ) (back line : ℕ) (run : List ℕ)
        (k : keep_needed left_states ≤ length keep)
        (b : queue_needed left_states right_states ≤ back)
        (l : queue_needed left_states right_states ≤ line) where
      search_is : search_outcome period left right keep back line run
          ≡ search_systems (left_system period (compared period left right e))
          (right_system period (compared period left right e)) keep back line run
      unfolding search_outcome
      search_is =
          judged_by_none (two_judged period left right) (λ r. refused r keep run)
          (λ f. search_systems (left_system period (compared period left right f))
          (right_system period (compared period left right f)) keep back line
          run) e

      search_without : (kind : ℕ → Refusal) → Short kind
          → ReturnsNo kind (of_search (search_outcome period left right keep back line run).answer)
      search_without kind short = rw search_is (searched (left_system period (compared period left right e))
          (right_system period (compared period left right e)) keep (keep_long keep k) back line run (queue_long back b)
          (queue_long line l) kind short)

      pub search_enough : ReturnsNo keep_too_short
          (of_search (search_outcome period left right keep back line run).answer)
          × ReturnsNo queue_too_short (of_search (search_outcome period left right keep back line run).answer)
      search_enough = (
        search_without keep_too_short (λ i. (omega arith, omega arith)),
        search_without queue_too_short (λ i. (omega arith, omega arith)),
      )

      pub run_enough : queue_needed left_states right_states ≤ length run
          → ReturnsNo run_too_short (of_search (search_outcome period left right keep back line run).answer)
      run_enough r = rw search_is (searched_run (left_system period (compared period left right e))
          (right_system period (compared period left right e)) keep (keep_long keep k) back line run (queue_long back b)
          (queue_long line l) (queue_long (length run) r))

    -- the check: not 13
    pub check_enough : (keep table : List ℕ) → keep_needed left_states ≤ length keep
        → ReturnsNo keep_too_short (of_check (check_outcome period left right keep table).answer)
    unfolding check_outcome
    check_enough keep table k =
        rw (judged_by_none (two_judged period left right) (λ (r : Refusal). check_refused r keep)
        (λ (f : none ≡ two_judged period left right). check_systems (left_system period (compared period left right f))
        (right_system period (compared period left right f)) keep table) e)
        (checked (left_system period (compared period left right e))
        (right_system period (compared period left right e)) keep table keep_too_short
        (λ i. (omega arith, omega arith)) (keep_long keep k))

    -- the widest table: not 13 or 14
    module _ (keep table : List ℕ)
        (k : keep_needed left_states ≤ length keep)
        (t : table_needed left_states right_states ≤ length table) where
      widest_without : (kind : ℕ → Refusal) → Short kind
          → ReturnsNo kind (of_widest (widest_outcome period left right keep table).answer)
      unfolding widest_outcome
      widest_without kind short =
          rw (judged_by_none (two_judged period left right) (λ (r : Refusal). widest_refused r keep table)
          (λ (f : none ≡ two_judged period left right). widest_systems
          (left_system period (compared period left right f))
          (right_system period (compared period left right f)) keep table) e)
          (widened (left_system period (compared period left right e))
          (right_system period (compared period left right e)) keep table kind short
          (keep_long keep k) (table_long table t))

      pub widest_enough : ReturnsNo keep_too_short (of_widest (widest_outcome period left right keep table).answer)
          × ReturnsNo table_too_short (of_widest (widest_outcome period left right keep table).answer)
      widest_enough = (
        widest_without keep_too_short (λ i. (omega arith, omega arith)),
        widest_without table_too_short (λ i. (omega arith, omega arith)),
      )
