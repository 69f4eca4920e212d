-- The starred posts, that is the examples that are proved: what SPECIFICATION 16.2 to 16.6 and 16.8 to 16.10 say of the
-- ten texts and of two more, at tick length 1 but for Sheet. Definitions only: proofs/Starred.antt proves them
-- (SPECIFICATION 17.4).
use Rattle.std.specs.Prelude.{◌≡◌, true, false, List, [], ◌∷◌, ◌++◌, ℕ, ◌*◌, ◌≤◌, length, drop, Ok, Err}
use Rattle.reader_examples.specs.Texts.{post, rearm, early, strict, loose, sheet, hush, idle, spare, twice, stay_or_go, reset_or_not, woken, overridden, too_late, late_or_not}
use Rattle.refusals.specs.declared.File.TheVariants.{None, Left}
use Rattle.refusals.specs.declared.Refusal.TheVariants.{ConstantTooLarge, InputWithoutMove, TwoEdges, RuleBroken, OutputBesideTick, NeitherPossible}
use Rattle.refusals.specs.Refusals.{start_not_safe, tick_out_of_range}
use Rattle.refusals.specs.Answers.{answer_of}
use Rattle.systems.specs.Definitions.{tick}
use Rattle.reachable.specs.Check.{neither}
use Rattle.clocks.specs.States.{input, next}
use Rattle.bitmaps.specs.Packed.{bytes_for}
use Rattle.clocks_read.specs.Reading.{read_outcome, text_in, states_in}
use Rattle.byte_slices.specs.Decimal.{ascii}
use Rattle.tables_check.specs.Fault.{step}
use Rattle.two_operations.specs.Outcome.{search_outcome, check_outcome, widest_outcome}
use Rattle.safe_states.specs.Outcome.{safe_outcome}
use Rattle.implementation_check.specs.Outcome.{implementation_outcome}
use Rattle.demands.specs.Words.{RightForm}
use Rattle.limits.specs.Limits.{shortest_tick}

-- the slices of a search over n left and m right states are long enough, and the run for so many steps
-- (SPECIFICATION 8.4, 12.4)
pub record Room (n m steps : ℕ) (keep : List ℕ) (back line : ℕ) (run : List ℕ) : Type 0 where
  pub keep_room : bytes_for n ≤ length keep
  pub back_room : n * m ≤ back
  pub line_room : n * m ≤ line
  pub run_room : steps ≤ length run

-- the search of the left s, of n states, against the right u, of m states, returns k and writes the run w, whatever the
-- slices are that are long enough
abbrev pub Searches : List ℕ → List ℕ → ℕ → ℕ → ℕ → List ℕ → Type 0
Searches s u n m k w = (keep : List ℕ) (back line : ℕ) (run : List ℕ) → Room n m k keep back line run
    → ((search_outcome shortest_tick s u keep back line run).answer ≡ Ok k)
    × ((search_outcome shortest_tick s u keep back line run).run ≡ w ++ drop k run)

-- the raster of the widest table of Post against Post (SPECIFICATION 16.4)
abbrev pub widest_raster : List ℕ
widest_raster =
    0x80 ∷ 0x00 ∷ 0x40 ∷ 0x00 ∷ 0x20 ∷ 0x00 ∷ 0x10 ∷ 0x00 ∷ 0x00 ∷ 0x00
    ∷ 0x07 ∷ 0xC0 ∷ 0x07 ∷ 0xC0 ∷ 0x07 ∷ 0xC0 ∷ 0x07 ∷ 0xC0 ∷ 0x07 ∷ 0xC0 ∷ []

-- the safe states of Post, each related to itself alone (SPECIFICATION 16.4)
abbrev pub diagonal_raster : List ℕ
diagonal_raster =
    0x80 ∷ 0x00 ∷ 0x40 ∷ 0x00 ∷ 0x20 ∷ 0x00 ∷ 0x10 ∷ 0x00 ∷ 0x00 ∷ 0x00
    ∷ 0x04 ∷ 0x00 ∷ 0x02 ∷ 0x00 ∷ 0x01 ∷ 0x00 ∷ 0x00 ∷ 0x80 ∷ 0x00 ∷ 0x40 ∷ []

-- no pair but that of the starts (SPECIFICATION 16.4)
abbrev pub start_raster : List ℕ
start_raster =
    0x80 ∷ 0x00 ∷ 0x00 ∷ 0x00 ∷ 0x00 ∷ 0x00 ∷ 0x00 ∷ 0x00 ∷ 0x00 ∷ 0x00
    ∷ 0x00 ∷ 0x00 ∷ 0x00 ∷ 0x00 ∷ 0x00 ∷ 0x00 ∷ 0x00 ∷ 0x00 ∷ 0x00 ∷ 0x00 ∷ []

-- a table of 10 by 10 states with this raster
abbrev pub ten_by_ten : List ℕ → List ℕ
ten_by_ten r = ascii "P4\n10 10\n" ++ r

-- Hush's keep: the safe states 5 to 9, in front of what was there
abbrev pub hush_kept : List ℕ → List ℕ
hush_kept keep = 0x07 ∷ 0xC0 ∷ drop 2 keep

-- the widest table of the left s against the right u, both of 10 states, is that of Post against Post (SPECIFICATION
-- 16.4)
abbrev pub WidensAsPost : List ℕ → List ℕ → Type 0
WidensAsPost s u = (keep table : List ℕ) → 2 ≤ length keep → 29 ≤ length table
    → ((widest_outcome shortest_tick s u keep table).answer ≡ Ok (record { count = 29; start = true }))
    × ((widest_outcome shortest_tick s u keep table).table ≡ ten_by_ten widest_raster ++ drop 29 table)

-- the examples, one field each
pub record Starred : Type 0 where
  -- Post: its states, and how many are safe, the start among them (SPECIFICATION 16.2)
  pub post_states : states_in (read_outcome shortest_tick post) ≡ 10
  pub post_safe : (keep : List ℕ) → 2 ≤ length keep → (safe_outcome shortest_tick post keep).answer
      ≡ Ok (record { count = 9; start = true })
  -- Strict: the same, with M as it is written (SPECIFICATION 16.2)
  pub strict_states : states_in (read_outcome shortest_tick strict) ≡ 12
  pub strict_safe : (keep : List ℕ) → 2 ≤ length keep → (safe_outcome shortest_tick strict keep).answer
      ≡ Ok (record { count = 10; start = true })
  -- Hush: how many states are safe, the start not among them (SPECIFICATION 16.3)
  pub hush_safe : (keep : List ℕ) → 2 ≤ length keep → (safe_outcome shortest_tick hush keep).answer
      ≡ Ok (record { count = 5; start = false })
  -- 17 for it as the left of all three operations: keep is written, the run and the table are as they came
  -- (SPECIFICATION 13.5, 16.3)
  pub hush_search : (keep : List ℕ) (back line : ℕ) (run : List ℕ) → Room 10 10 0 keep back line run
      → search_outcome shortest_tick hush post keep back line run
      ≡ record { answer = Err (start_not_safe 0); keep = hush_kept keep; run = run }
  pub hush_check : (keep table : List ℕ) → 2 ≤ length keep → RightForm 10 10 table
      → check_outcome shortest_tick hush post keep table
      ≡ record { answer = Err (start_not_safe 0); keep = hush_kept keep }
  pub hush_widest : (keep table : List ℕ) → 2 ≤ length keep → 29 ≤ length table
      → widest_outcome shortest_tick hush post keep table
      ≡ record {
        answer = Err (start_not_safe 0);
        keep = hush_kept keep;
        table = table;
      }
  -- Post against Post: no departure (SPECIFICATION 16.4)
  pub post_post : Searches post post 10 10 0 []
  -- its widest table, count and bytes (SPECIFICATION 16.4)
  pub post_widest : WidensAsPost post post
  -- the check of the diagonal table: accepted, with its count (SPECIFICATION 16.4)
  pub diagonal : (keep : List ℕ) → 2 ≤ length keep
      → (check_outcome shortest_tick post post keep (ten_by_ten diagonal_raster)).answer ≡ Ok 9
  -- the check of the table with the starts alone: the tick breaks a rule (SPECIFICATION 16.4)
  pub start_only : (keep : List ℕ) → 2 ≤ length keep
      → (check_outcome shortest_tick post post keep (ten_by_ten start_raster)).answer
      ≡ Err (RuleBroken None (step 0) 0)
  -- Rearm's widest table against Post (SPECIFICATION 16.5)
  pub rearm_widest : (keep table : List ℕ) → 2 ≤ length keep → 29 ≤ length table
      → (widest_outcome shortest_tick rearm post keep table).answer ≡ Ok (record { count = 25; start = false })
  -- the other departures (SPECIFICATION 16.6), with their steps
  pub early_post : Searches early post 8 10 3 (tick ∷ tick ∷ 3 ∷ [])
  pub idle_post : Searches idle post 4 10 4 (tick ∷ tick ∷ tick ∷ tick ∷ [])
  pub post_idle : Searches post idle 10 4 4 (tick ∷ tick ∷ tick ∷ 3 ∷ [])
  pub post_hush : Searches post hush 10 10 4 (tick ∷ tick ∷ tick ∷ 3 ∷ [])
  -- Strict and Post: no departure either way, and the pairs of both widest tables (SPECIFICATION 16.6)
  pub strict_post : Searches strict post 12 10 0 []
  pub post_strict : Searches post strict 10 12 0 []
  pub strict_widest : (keep table : List ℕ) → 2 ≤ length keep → 33 ≤ length table
      → (widest_outcome shortest_tick strict post keep table).answer ≡ Ok (record { count = 34; start = true })
  pub strict_widened : (keep table : List ℕ) → 2 ≤ length keep → 29 ≤ length table
      → (widest_outcome shortest_tick post strict keep table).answer ≡ Ok (record { count = 34; start = true })
  -- the departure of Rearm from Post that the program prints (SPECIFICATION 16.5)
  pub rearm_post : Searches rearm post 10 10 5 (tick ∷ tick ∷ tick ∷ 2 ∷ tick ∷ [])
  -- the implementation check: five posts are implementations, and where Hush and Loose have their faults
  -- (SPECIFICATION 16.8)
  pub post_passes : implementation_outcome shortest_tick post ≡ Ok tt
  pub rearm_passes : implementation_outcome shortest_tick rearm ≡ Ok tt
  pub early_passes : implementation_outcome shortest_tick early ≡ Ok tt
  pub idle_passes : implementation_outcome shortest_tick idle ≡ Ok tt
  pub strict_passes : implementation_outcome shortest_tick strict ≡ Ok tt
  pub hush_neither : implementation_outcome shortest_tick hush
      ≡ Err (NeitherPossible Left 3)
  pub loose_beside : implementation_outcome shortest_tick loose
      ≡ Err (OutputBesideTick Left 2 3)
  -- Spare is one too, though a state that no run leads to has neither a tick nor an output (SPECIFICATION 16.8)
  pub spare_states : states_in (read_outcome shortest_tick spare) ≡ 15
  pub spare_fault : neither 4 (input (text_in (read_outcome shortest_tick spare)))
      (next (text_in (read_outcome shortest_tick spare))) 10 ≡ true
  pub spare_passes : implementation_outcome shortest_tick spare ≡ Ok tt
  -- Sheet at tick lengths 1,000, 2,000 and 60,000; 6 at tick length 1 and 24 at 0 (SPECIFICATION 16.9)
  pub sheet_states : states_in (read_outcome 1000 sheet) ≡ 10
  pub sheet_fewer : states_in (read_outcome 2000 sheet) ≡ 8
  pub sheet_passes : implementation_outcome 1000 sheet ≡ Ok tt
  pub sheet_beside : implementation_outcome 2000 sheet ≡ Err (OutputBesideTick Left 1 3)
  pub sheet_longest : implementation_outcome 60000 sheet ≡ Ok tt
  pub sheet_large : answer_of (read_outcome shortest_tick sheet)
      ≡ Err (ConstantTooLarge Left 78)
  pub sheet_zero : answer_of (read_outcome 0 sheet) ≡ Err (tick_out_of_range 0)
  -- Twice: its parallel edges make one move, so that it has the answers of Post (SPECIFICATION 16.10)
  pub twice_states : states_in (read_outcome shortest_tick twice) ≡ 10
  pub twice_safe : (keep : List ℕ) → 2 ≤ length keep → (safe_outcome shortest_tick twice keep).answer
      ≡ Ok (record { count = 9; start = true })
  pub twice_post : Searches twice post 10 10 0 []
  pub post_twice : Searches post twice 10 10 0 []
  pub twice_widest : WidensAsPost twice post
  pub twice_widened : WidensAsPost post twice
  pub twice_passes : implementation_outcome shortest_tick twice ≡ Ok tt
  -- 11 where the second edge leads to Wait, and where it resets x (SPECIFICATION 16.10)
  pub stay_refused : answer_of (read_outcome shortest_tick stay_or_go)
      ≡ Err (TwoEdges Left 0 1)
  pub reset_refused : answer_of (read_outcome shortest_tick reset_or_not)
      ≡ Err (TwoEdges Left 1 1)
  -- Woken: its states and safe states, that it is an implementation, and its departures (SPECIFICATION 16.11)
  pub woken_states : states_in (read_outcome shortest_tick woken) ≡ 10
  pub woken_safe : (keep : List ℕ) → 2 ≤ length keep → (safe_outcome shortest_tick woken keep).answer
      ≡ Ok (record { count = 9; start = true })
  pub woken_passes : implementation_outcome shortest_tick woken ≡ Ok tt
  pub woken_post : Searches woken post 10 10 4 (2 ∷ tick ∷ tick ∷ 3 ∷ [])
  pub post_woken : Searches post woken 10 10 4 (2 ∷ tick ∷ tick ∷ tick ∷ [])
  -- where 7 is overridden by 1, 7 counts towards M, and nothing departs from Woken either way (SPECIFICATION 16.11)
  pub overridden_states : states_in (read_outcome shortest_tick overridden) ≡ 18
  pub overridden_woken : Searches overridden woken 18 10 0 []
  pub woken_overridden : Searches woken overridden 10 18 0 []
  -- 10 where Wait's invariant does not allow the value, and 11 beside an edge that assigns nothing (SPECIFICATION 16.11)
  pub too_late_refused : answer_of (read_outcome shortest_tick too_late)
      ≡ Err (InputWithoutMove Left 0 2)
  pub late_refused : answer_of (read_outcome shortest_tick late_or_not)
      ≡ Err (TwoEdges Left 0 2)
