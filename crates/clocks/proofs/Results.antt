-- What the computations on the state numbers of accepted texts say of the texts with uncapped clocks: the theorems of
-- the
-- crate systems over the capping of Contract.antt. The channels of the right text are paired with those of the left
-- by f.
use Rattle.std.specs.Prelude.{◌≡◌, ◌↔◌, Bool, List, [], ℕ, ◌*◌, ◌≤◌, ◌<◌, T, length}
use Rattle.systems.specs.Definitions.{Input, System, Implementation, Satisfies, LargestSafeSet, Run, Allows, Makes, NoDeparture, ShortestDeparture, Refines, StepRules}
use Rattle.systems.specs.Finite.{FiniteSystem, State, Capping, safe, SafeAt, pruned, step_ok, check, Denoted, Widest, search_run}
use Rattle.systems.specs.Renumbered.{renumbered_system, renumbered, renumbered_capping}
use Rattle.systems.proofs.Theorems.{safe_states_largest, implementation_iff, runs_iff, search_shortest, search_bounded, search_implementations, search_made, search_at_least, check_exactly, pair_exactly, step_exactly, widest_exactly, widest_start_exactly}
use Rattle.reader_record.specs.declared.Text.{Text}
use Rattle.clocks.specs.Accepted.{Accepted}
use Rattle.clocks.proofs.Contract.{signature, uncapped, system, capping}

module _ (t : Text) (a : Accepted t) where
  -- the text with uncapped clocks, and those of its configurations whose state number is safe
  abbrev pub Meaning : System (signature t)
  Meaning = uncapped t a.formed

  abbrev pub Safe : Meaning.State → Type 0
  Safe = SafeAt (capping t a)

  -- they are its safe states
  pub text_safe : LargestSafeSet Meaning Safe
  text_safe = safe_states_largest (capping t a)

  -- the text has an implementation exactly when its start is safe
  pub text_implementable : ((I : Implementation (signature t)) × Satisfies I Meaning) ↔ T
      (safe (system t a) (system t a).start)
  text_implementable = implementation_iff (capping t a)

  -- the runs of the text, unpruned, from a configuration whose invariant is true are those of its state numbers
  pub text_runs : (v : Meaning.State) (w : List ℕ) (s : ℕ) → T (Meaning.holds v)
      → ((u : Meaning.State) × Run Meaning.next v w u × ((capping t a).cap u ≡ s)) ↔ Run (system t a).next
      ((capping t a).cap v) w s
  text_runs = runs_iff (capping t a)

module _ (l r : Text) (a : Accepted l) (b : Accepted r) (f : ℕ → ℕ)
    (inputs : (c : ℕ) → Input (signature l) c → Input (signature r) (f c)) where
  -- the two texts with uncapped clocks and by their state numbers, the right one's steps numbered as the left's
  abbrev pub Left : System (signature l)
  Left = uncapped l a.formed

  abbrev pub Right : System (signature l)
  Right = renumbered_system f (uncapped r b.formed)

  abbrev pub left : FiniteSystem (signature l)
  left = system l a

  abbrev pub right : FiniteSystem (signature l)
  right = renumbered f inputs (system r b)

  abbrev pub left_capping : Capping Left left
  left_capping = capping l a

  abbrev pub right_capping : Capping Right right
  right_capping = renumbered_capping f inputs (uncapped r b.formed) (system r b) (capping r b)

  abbrev pub SafeLeft : Left.State → Type 0
  SafeLeft = SafeAt left_capping

  -- the search: with a safe left start, it answers the empty run exactly when every implementation of the left
  -- satisfies the right
  pub text_search : T (safe left left.start)
      → (search_run left right ≡ []) ↔ ((I : Implementation (signature l)) → Satisfies I Left → Satisfies I Right)
  text_search = search_implementations left_capping right_capping

  -- else a shortest departure, the one smallest step by step, at most left states × right states long
  pub text_search_shortest : T (safe left left.start) → (search_run left right ≡ [] → ⊥)
      → ShortestDeparture Left Right SafeLeft (search_run left right)
  text_search_shortest = search_shortest left_capping right_capping

  pub text_search_bounded : T (safe left left.start) → length (search_run left right) ≤ left.size * right.size
  text_search_bounded = search_bounded left_capping right_capping

  -- whose steps some implementation of the left makes and the right does not allow
  pub text_search_made : T (safe left left.start) → (search_run left right ≡ [] → ⊥)
      → (I : Implementation (signature l)) × Satisfies I Left × Makes I (search_run left right)
      × (Allows Right (search_run left right) → ⊥)
  text_search_made = search_made left_capping right_capping

  -- every such run has at least its length, and there is none where it is empty
  pub text_search_at_least : T (safe left left.start) → (I : Implementation (signature l)) → Satisfies I Left
      → (w : List ℕ) → Makes I w → (Allows Right w → ⊥)
      → (search_run left right ≡ [] → ⊥) × (length (search_run left right) ≤ length w)
  text_search_at_least = search_at_least left_capping right_capping

  -- code 19: a pair of configurations is as SPECIFICATION 9.4 asks exactly when the pair of their state numbers is
  pub table_pair : (x : Left.State) (y : Right.State)
      → (SafeLeft x × T (Right.holds y)) ↔ (T (safe left (left_capping.cap x)) × State right
      (right_capping.cap y))
  table_pair = pair_exactly left_capping right_capping

  -- code 20: the test of a step at a pair of state numbers is the rules at each pair of their configurations, also
  -- where an
  -- invariant is false
  pub table_step : (X : ℕ → ℕ → Bool) (x : Left.State) (y : Right.State) (c : ℕ)
      → left_capping.cap x < left.size → right_capping.cap y < right.size
      → T (step_ok (signature l) (pruned left) right.next X (left_capping.cap x) (right_capping.cap y) c)
      ↔ StepRules Left Right SafeLeft (λ u v. T (X (left_capping.cap u) (right_capping.cap v))) x y c
  table_step = step_exactly left_capping right_capping

  -- the check accepts a table exactly when the relation it denotes over uncapped clocks contains the start pair and
  -- meets the rules
  pub table_check : (X : ℕ → ℕ → Bool) → T (check left right X)
      ↔ (Denoted left_capping right_capping X Left.start Right.start × Refines Left Right SafeLeft
      (Denoted left_capping right_capping X))
  table_check = check_exactly left_capping right_capping

  -- the widest table holds exactly the pairs of configurations that some relation meeting the rules holds
  pub table_widest : (x : Left.State) (y : Right.State)
      → Widest left_capping right_capping x y ↔
      ((Q : Left.State → Right.State → Type 0) × Refines Left Right SafeLeft Q × Q x y)
  table_widest = widest_exactly left_capping right_capping

  -- with a safe left start it has the start pair exactly when there is no departure
  pub table_start : T (safe left left.start)
      → Widest left_capping right_capping Left.start Right.start ↔ NoDeparture Left Right SafeLeft
  table_start = widest_start_exactly left_capping right_capping
