-- The operations on two texts, as their bytes (SPECIFICATION 12.3 to 12.6): codes 24 and 1 to 12 leave everything lent
-- as it came (SPECIFICATION 13.5); where they find nothing, the outcome is that of the two systems.
use Rattle.std.specs.Prelude.{List, ℕ}
use Rattle.two_texts.specs.Two.{two_judged, left_system, right_system, judged_by}
use Rattle.two_texts.proofs.Laws.{compared}
use Rattle.search.specs.Outcome as search
use Rattle.search.specs.Outcome.{Outcome, search_systems}
use Rattle.tables.specs.Outcome.{Checked, check_refused, check_systems, Widened, widest_refused, widest_systems}

-- at one tick length for both texts, `period` (SPECIFICATION 4.7)
module _ (period : ℕ) where
  -- the search (SPECIFICATION 12.4); `back` and `line` are the lengths of these slices
  unfoldable pub search_outcome : List ℕ → List ℕ → List ℕ → ℕ → ℕ → List ℕ → Outcome
  search_outcome left right keep back line run =
      judged_by (two_judged period left right) (λ r. search.refused r keep run)
      (λ e. search_systems (left_system period (compared period left right e))
      (right_system period (compared period left right e)) keep back line
      run)

  -- the check of a given table (SPECIFICATION 12.5)
  unfoldable pub check_outcome : List ℕ → List ℕ → List ℕ → List ℕ → Checked
  check_outcome left right keep table =
      judged_by (two_judged period left right) (λ r. check_refused r keep)
      (λ e. check_systems (left_system period (compared period left right e))
      (right_system period (compared period left right e)) keep table)

  -- the widest table (SPECIFICATION 12.6)
  unfoldable pub widest_outcome : List ℕ → List ℕ → List ℕ → List ℕ → Widened
  widest_outcome left right keep table =
      judged_by (two_judged period left right) (λ r. widest_refused r keep table)
      (λ e. widest_systems (left_system period (compared period left right e))
      (right_system period (compared period left right e)) keep table)
