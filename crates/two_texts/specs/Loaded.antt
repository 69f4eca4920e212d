-- What the operations above work on: slices that hold two accepted texts with equal channels.
use Rattle.std.specs.Prelude.{◌≡◌, List, ℕ, Result, Ok, Err, IfOk, ⊤}
use Rattle.std.proofs.Math.Option.{Option, none, some}
use Rattle.refusals.specs.declared.Refusal.{Refusal}
use Rattle.refusals.specs.Answers.{answer_of}
use Rattle.move_tables.specs.Held.{Held}
use Rattle.two_texts.specs.declared.TwoTexts.{TwoTexts}
use Rattle.two_texts.specs.Two.{two_judged, Compared, left_system, right_system}

-- the refusal of an answer, if it is one
unfoldable pub refusal_in : Result ⊤ Refusal → Option Refusal
refusal_in (Ok u) = none
refusal_in (Err r) = some r

-- at one tick length, `period` (SPECIFICATION 4.7)
module _ (period : ℕ) where
  -- the numbers of t and the slices are those of the two texts, the right's moves by the left's step numbers
  abbrev pub Loaded : {left right : List ℕ} → Compared period left right → List ℕ → List ℕ → List ℕ → List ℕ → TwoTexts
      → Type 0
  Loaded c left_moves right_moves left_holds right_holds t = Held (left_system period c) (right_system period c)
      t.sides t.inputs
      left_moves right_moves left_holds right_holds

  -- what loading two texts promises
  pub record Loads (left right left_moves right_moves left_holds right_holds : List ℕ) (t : Result TwoTexts Refusal) : Type 0 where
    pub judged : two_judged period left right ≡ refusal_in (answer_of t)
    pub loaded : (c : Compared period left right)
        → IfOk t (Loaded c left_moves right_moves left_holds right_holds)
