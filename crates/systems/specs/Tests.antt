-- Tests of numbers and tables of Booleans: the words in which Finite.antt computes the safe states, the check, the
-- widest table and the search (SPECIFICATION 8.3, 11.5, 11.6, 10.4). No rule stands here. Definitions only; laws in
-- Bools.antt and proofs/Sieve.antt.
use Rattle.std.specs.Prelude.{Bool, true, false, not, ◌&&◌, ◌||◌, List, [], ◌∷◌, ℕ, zero, suc, get_or, replicate}
use Rattle.std.proofs.Math.Option.{Option, none, some}

-- every number below n passes
unfoldable pub all : ℕ → (ℕ → Bool) → Bool
all zero p = true
all (suc n) p = p n && all n p

-- some number below n passes
unfoldable pub any : ℕ → (ℕ → Bool) → Bool
any zero p = false
any (suc n) p = p n || any n p

-- the least number from i on that passes, among n of them; i + n if none does
unfoldable pub least : (ℕ → Bool) → ℕ → ℕ → ℕ
least p i zero = i
least p i (suc n) = elim (p i) [ true ↦ i | false ↦ least p (suc i) n ]

-- implication
infixr 25 ◌⇒◌
unfoldable pub ◌⇒◌ : Bool → Bool → Bool
a ⇒ b = not a || b

-- a move leads to something that passes, if there is one
unfoldable pub stays : (ℕ → Bool) → Option ℕ → Bool
stays X none = true
stays X (some t) = X t

-- there is a move, and it leads to something that passes
unfoldable pub lands : (ℕ → Bool) → Option ℕ → Bool
lands X none = false
lands X (some t) = X t

-- A table is a list of Booleans, one for each number below its length: entry i, false past the end
abbrev pub at : List Bool → ℕ → Bool
at X i = get_or X i false

-- how many entries are true
unfoldable pub ones : List Bool → ℕ
ones [] = zero
ones (true ∷ X) = suc (ones X)
ones (false ∷ X) = ones X

-- the entries that pass, where the first has number i
unfoldable pub sieve : (ℕ → Bool) → ℕ → List Bool → List Bool
sieve p i [] = []
sieve p i (b ∷ X) = (b && p i) ∷ sieve p (suc i) X

-- the table of a test, for the numbers below n
unfoldable pub table : ℕ → (ℕ → Bool) → List Bool
table n p = sieve p 0 (replicate n true)

-- rounds of removal by a test that may look at the table: one, and the table after n of them
module _ (keep : List Bool → ℕ → Bool) where
  unfoldable pub round : List Bool → List Bool
  round X = sieve (keep X) 0 X

  unfoldable pub stage : List Bool → ℕ → List Bool
  stage X zero = X
  stage X (suc n) = round (stage X n)
