-- What is asked of codes 10 and 11 and of parallel edges, for every text (SPECIFICATION 6.3, 7.2, 17.12). Definitions
-- only: the theorem is in proofs/Guarantees.antt. Which edges give moves and lead to different states, and what the
-- lowest state and channel are, is said in crate clocks, Faults.antt.
use Rattle.std.specs.Prelude.{◌≡◌, ◌↔◌, List, ℕ, ◌≤◌, ◌<◌, T, Result, Ok, Err, ⊤}
use Rattle.std.proofs.Math.Option.{some}
use Rattle.limits.specs.Limits.{state_limit}
use Rattle.refusals.specs.declared.File.TheVariants.{Left}
use Rattle.refusals.specs.declared.Refusal.{Refusal}
use Rattle.refusals.specs.declared.Refusal.TheVariants.{InputWithoutMove, TwoEdges}
use Rattle.refusals.specs.Answers.{answer_of}
use Rattle.reader_record.specs.declared.Text.{Text}
use Rattle.reader_record.specs.Record.{edge}
use Rattle.reader.specs.Reading as reader
use Rattle.reader.specs.Reading.{read_text}
use Rattle.clocks.specs.declared.Config.{Config}
use Rattle.clocks.specs.Meaning.{after, moves, led, stands}
use Rattle.clocks.specs.States.{ranges, state, config, state_count}
use Rattle.clocks.specs.Faults.{edge_gives, WithoutMove, TwoWays, NoneLower}

-- at one tick length, `period` (SPECIFICATION 4.7)
module _ (period : ℕ) where
  -- the record that is read from a text
  abbrev pub record_of : List ℕ → Text
  record_of s = reader.record_of (read_text period s)

  -- none of 24 and 1 to 9 applies to the text, so that its states are judged (SPECIFICATION 13.4)
  abbrev pub StatesJudged : List ℕ → Type 0
  StatesJudged s = (answer_of (read_text period s) ≡ Ok tt) × (state_count (record_of s) ≤ state_limit)

  -- What is asked of the answer v of reading to the text s.
  pub record ParallelDemand (s : List ℕ) (v : Result ⊤ Refusal) : Type 0 where
    -- 11 exactly if two edges give moves by channel c in state n and lead to different states, and no lower state, nor a
    -- lower channel in n, has a fault; 10 exactly if no edge gives a move by the input c there
    pub eleven : (n c : ℕ) → (v ≡ Err (TwoEdges Left n c))
        ↔ (StatesJudged s × NoneLower (record_of s) n c × TwoWays (record_of s) n c)
    pub ten : (n c : ℕ) → (v ≡ Err (InputWithoutMove Left n c))
        ↔ (StatesJudged s × NoneLower (record_of s) n c × WithoutMove (record_of s) n c)
    -- in a configuration x, its clocks not capped, the edges that give moves are those of its state, and two edges lead
    -- to one configuration exactly if they lead to one state from there
    pub same_edges : StatesJudged s → (x : Config) (c i : ℕ) → i < (record_of s).edge_count
        → edge_gives (record_of s) (config (ranges (record_of s)) (state (ranges (record_of s)) x)) c i
        ≡ edge_gives (record_of s) x c i
    pub same_states : StatesJudged s → (x : Config) (i j : ℕ) → i < (record_of s).edge_count
        → j < (record_of s).edge_count → (after (edge (record_of s) i) x ≡ after (edge (record_of s) j) x)
        ↔ (state (ranges (record_of s))
        (after (edge (record_of s) i) (config (ranges (record_of s)) (state (ranges (record_of s)) x)))
        ≡ state (ranges (record_of s))
        (after (edge (record_of s) j) (config (ranges (record_of s)) (state (ranges (record_of s)) x))))
    -- in a configuration of an accepted text each edge that gives a move by channel c leads where the step c leads, so
    -- that all of them make one move; and the step is made only by an edge
    pub one_move : v ≡ Ok tt → (x : Config) → T (stands (record_of s) x) → (c i : ℕ)
        → i < (record_of s).edge_count → T (edge_gives (record_of s) x c i)
        → led (moves (record_of s) x c) ≡ some (after (edge (record_of s) i) x)
    pub by_an_edge : v ≡ Ok tt → (x u : Config) (c : ℕ) → 0 < c → led (moves (record_of s) x c) ≡ some u
        → (i : ℕ) × (i < (record_of s).edge_count) × T (edge_gives (record_of s) x c i)
        × (after (edge (record_of s) i) x ≡ u)
