-- Laws of removal from a table (specs/Tests.antt): rounds of it come to the largest part that a rule keeps, and so does
-- removal of one entry at a time in any order.
use Rattle.std.specs.Prelude.{◌≡◌, ◌↔◌, ◌⊎◌, ◌≢◌, Bool, not, ◌&&◌, length, set, replicate}
use Rattle.std.proofs.Math.Path.{refl, sym, subst, ap}
use Rattle.std.proofs.Common.{◌∙◌, eq-or-lt_of_le, T_not, ext_get_or}
use Rattle.std.proofs.Math.Logic.{inl, inr, ⊎_elim}
use Rattle.std.proofs.Math.Bool.{true, false}
use mathlib.Core.List.{List, [], ◌∷◌}
use Prim.Native.Nat.{ℕ, zero, suc, ◌+◌, ◌≤◌, ◌<◌}
use native.Mathlib.Omega.{arith}
use Rattle.std.proofs.Math.Dec.{T, eqb, eqb→eq}
use Rattle.std.proofs.Math.Decide.{ℕ_discrete}
use Rattle.std.proofs.lemmas.List.{get_or-replicate, length-replicate}
use Rattle.systems.specs.Tests.{at, ones, sieve, table, round, stage}
use Rattle.systems.specs.Bools.{and_T, and_left, and_right}

pub at_sieve : (p : ℕ → Bool) (i : ℕ) (X : List Bool) (j : ℕ) → at (sieve p i X) j ≡ (at X j && p (i + j))
unfolding sieve
at_sieve p i [] j = refl
at_sieve p i (b ∷ X) zero = ap (λ (k : ℕ). b && p k) (omega arith)
at_sieve p i (b ∷ X) (suc j) = at_sieve p (suc i) X j ∙ ap (λ (k : ℕ). at X j && p k) (omega arith)

pub ones_sieve : (p : ℕ → Bool) (i : ℕ) (X : List Bool) → ones (sieve p i X) ≤ ones X
unfolding sieve ones
ones_sieve p i [] = omega arith
ones_sieve p i (true ∷ X) = go (p i) (ones_sieve p (suc i) X)
  where
    go : (b : Bool) → ones (sieve p (suc i) X) ≤ ones X → ones (b ∷ sieve p (suc i) X) ≤ suc (ones X)
    go true h = omega arith
    go false h = omega arith
ones_sieve p i (false ∷ X) = ones_sieve p (suc i) X

-- a sieve that removes nothing
pub sieve_same : (p : ℕ → Bool) (i : ℕ) (X : List Bool) → ones X ≤ ones (sieve p i X) → sieve p i X ≡ X
unfolding sieve ones
sieve_same p i [] h = refl
sieve_same p i (true ∷ X) h = go (p i) (ones_sieve p (suc i) X) (sieve_same p (suc i) X) h
  where
    go : (b : Bool) → ones (sieve p (suc i) X) ≤ ones X → (ones X ≤ ones (sieve p (suc i) X) → sieve p (suc i) X ≡ X)
        → suc (ones X) ≤ ones (b ∷ sieve p (suc i) X) → ◌≡◌ {A = List Bool} (b ∷ sieve p (suc i) X) (true ∷ X)
    go true l ih h = ap (λ (Y : List Bool). true ∷ Y) (ih (omega arith))
    go false l ih h = absurd (omega arith)
sieve_same p i (false ∷ X) h = ap (λ (Y : List Bool). false ∷ Y) (sieve_same p (suc i) X h)

module _ (keep : List Bool → ℕ → Bool) where
  pub at_round : (X : List Bool) (i : ℕ) → at (round keep X) i ≡ (at X i && keep X i)
  unfolding round
  at_round X i = at_sieve (keep X) 0 X i ∙ ap (λ (k : ℕ). at X i && keep X k) (omega arith)

  falls : (X : List Bool) → (round keep X ≡ X) ⊎ (ones (round keep X) < ones X)
  unfolding round
  falls X = ⊎_elim (λ e. inl (sieve_same (keep X) 0 X (omega arith))) (λ l. inr l)
      (eq-or-lt_of_le (ones_sieve (keep X) 0 X))

  falls_to : (X : List Bool) (n : ℕ) → (round keep (stage keep X n) ≡ stage keep X n)
      ⊎ (ones (stage keep X n) + n ≤ ones X)
  unfolding stage
  falls_to X zero = inr (omega arith)
  falls_to X (suc n) = ⊎_elim (λ e. inl (ap (round keep) e))
      (λ l. ⊎_elim (λ e. inl (ap (round keep) e)) (λ k. inr (omega arith)) (falls (stage keep X n))) (falls_to X n)

  -- after as many rounds as the table has entries set, nothing more is removed
  pub settled : (X : List Bool) (n : ℕ) → ones X ≤ n → round keep (stage keep X n) ≡ stage keep X n
  unfolding round
  settled X n h = ⊎_elim (λ e. e) (λ l. sieve_same (keep (stage keep X n)) 0 (stage keep X n) (omega arith))
      (falls_to X n)

  -- each round only removes
  pub stage_within : (X : List Bool) (n : ℕ) (i : ℕ) → T (at (stage keep X n) i) → T (at X i)
  unfolding stage
  stage_within X zero i t = t
  stage_within X (suc n) i t = stage_within X n i
      (and_left (at (stage keep X n) i) (keep (stage keep X n) i) (subst T (at_round (stage keep X n) i) t))

  -- at most n rounds, and none after one that removes nothing
  unfoldable pub settle : List Bool → ℕ → List Bool
  settle X zero = X
  settle X (suc n) = let Y = round keep X in elim (eqb (ones Y) (ones X)) [ true ↦ X | false ↦ settle Y n ]

  stage_front : (X : List Bool) (n : ℕ) → stage keep (round keep X) n ≡ stage keep X (suc n)
  unfolding stage
  stage_front X zero = refl
  stage_front X (suc n) = ap (round keep) (stage_front X n)

  stage_same : (X : List Bool) (n : ℕ) → round keep X ≡ X → stage keep X n ≡ X
  unfolding stage
  stage_same X zero e = refl
  stage_same X (suc n) e = ap (round keep) (stage_same X n e) ∙ e

  pub settle_stage : (X : List Bool) (n : ℕ) → settle X n ≡ stage keep X n
  unfolding settle stage round
  settle_stage X zero = refl
  settle_stage X (suc n) = go (eqb (ones (round keep X)) (ones X)) refl (settle_stage (round keep X) n)
    where
      go : (b : Bool) → eqb (ones (round keep X)) (ones X) ≡ b → settle (round keep X) n ≡ stage keep (round keep X) n
          → (elim b [ true ↦ X | false ↦ settle (round keep X) n ]) ≡ stage keep X (suc n)
      go true e ih =
          let f : ones (round keep X) ≡ ones X = eqb→eq (ones (round keep X)) (ones X) (subst T (sym e) tt) in
          sym (stage_same X (suc n) (sieve_same (keep X) 0 X (omega arith)))
      go false e ih = ih ∙ stage_front X n

-- the tables before each of n rounds, the last first
unfoldable pub stages : (List Bool → ℕ → Bool) → List Bool → ℕ → List (List Bool)
stages keep X zero = []
stages keep X (suc n) = stage keep X n ∷ stages keep X n

module _ (keep : List Bool → ℕ → Bool) (i : ℕ) where
  -- the tables up to the round in which entry i goes; none if it stays
  unfoldable pub trail : List Bool → List (List Bool) → ℕ → List (List Bool)
  trail X older zero = []
  trail X older (suc n) =
      let Y = round keep X in
      elim (at Y i) [
        | false ↦ X ∷ older
        | true ↦ elim (eqb (ones Y) (ones X))
            [ true ↦ [] | false ↦ trail Y (X ∷ older) n ]
      ]

  -- an entry that is there later was there before
  pub stage_later : (X : List Bool) (k n : ℕ) → T (at (stage keep X (n + k)) i) → T (at (stage keep X k) i)
  unfolding stage
  stage_later X k zero t = let e : 0 + k ≡ k = omega arith in rw e at t
  stage_later X k (suc n) t =
      let e : suc n + k ≡ suc (n + k) = omega arith in
      let u : T (at (stage keep X (suc (n + k))) i) = rw e at t in
      stage_later X k n (and_left (at (stage keep X (n + k)) i) (keep (stage keep X (n + k)) i)
      (subst T (at_round keep (stage keep X (n + k)) i) u))

  stage_stable : (X : List Bool) (k n : ℕ) → round keep (stage keep X k) ≡ stage keep X k
      → stage keep X (n + k) ≡ stage keep X k
  unfolding stage
  stage_stable X k zero e = let f : 0 + k ≡ k = omega arith in ap (stage keep X) f
  stage_stable X k (suc n) e = let f : suc n + k ≡ suc (n + k) = omega arith in
      ap (stage keep X) f ∙ ap (round keep) (stage_stable X k n e) ∙ e

  -- what a trail says of entry i up to round m
  abbrev pub Trail : List Bool → ℕ → List (List Bool) → Type 0
  Trail X m l =
      ((l ≡ []) × T (at (stage keep X m) i))
      ⊎ ((j : ℕ) × (l ≡ stages keep X (suc j)) × T (at (stage keep X j) i) × T (not (at (stage keep X (suc j)) i))
      × (suc j ≤ m))

  pub trail_spec : (X : List Bool) (n k : ℕ) → T (at (stage keep X k) i)
      → Trail X (n + k) (trail (stage keep X k) (stages keep X k) n)
  unfolding trail stage stages round
  trail_spec X zero k t = let e : 0 + k ≡ k = omega arith in rw e (inl (refl, t))
  trail_spec X (suc n) k t = go (at (stage keep X (suc k)) i) refl
      (eqb (ones (stage keep X (suc k))) (ones (stage keep X k))) refl (trail_spec X n (suc k))
    where
      go : (a : Bool) → at (stage keep X (suc k)) i ≡ a → (b : Bool)
          → eqb (ones (stage keep X (suc k))) (ones (stage keep X k)) ≡ b
          → (T (at (stage keep X (suc k)) i) → Trail X (n + suc k)
          (trail (stage keep X (suc k)) (stages keep X (suc k)) n))
          → Trail X (suc n + k) (elim a [
            | false ↦ stages keep X (suc k)
            | true ↦ elim b
                [ true ↦ [] | false ↦ trail (stage keep X (suc k)) (stages keep X (suc k)) n ]
          ])
      go false e b f ih = inr (k, refl, t, subst (λ (x : Bool). T (not x)) (sym e) tt, omega arith)
      go true e true f ih =
          let g : ones (stage keep X (suc k)) ≡ ones (stage keep X k) = eqb→eq _ _ (subst T (sym f) tt) in
          let same : round keep (stage keep X k) ≡ stage keep X k = sieve_same (keep (stage keep X k)) 0
          (stage keep X k) (omega arith) in
          inl (refl, rw (stage_stable X k (suc n) same) t)
      go true e false f ih = let g : suc n + k ≡ n + suc k = omega arith in rw g (ih (subst T (sym e) tt))

-- a rule for keeping an entry, which may look at the table, and the test that decides it
pub record Rule : Type 1 where
  pub Keep : (ℕ → Type 0) → ℕ → Type 0
  pub mono : (P Q : ℕ → Type 0) → ((i : ℕ) → P i → Q i) → (i : ℕ) → Keep P i → Keep Q i
  pub keep : List Bool → ℕ → Bool
  pub sound : (X : List Bool) (i : ℕ) → T (keep X i) → Keep (λ j. T (at X j)) i
  pub complete : (X : List Bool) (i : ℕ) → Keep (λ j. T (at X j)) i → T (keep X i)

module _ (R : Rule) where
  -- what is left in the end meets the rule
  pub stage_keeps : (X : List Bool) (n : ℕ) → ones X ≤ n → (i : ℕ) → T (at (stage R.keep X n) i)
      → R.Keep (λ j. T (at (stage R.keep X n) j)) i
  stage_keeps X n h i t =
      let Y = stage R.keep X n in
      let e : at Y i ≡ (at Y i && R.keep Y i) = ap (λ (Z : List Bool). at Z i)
      (sym (settled R.keep X n h)) ∙ at_round R.keep Y i in
      R.sound Y i (and_right (at Y i) (R.keep Y i) (subst T e t))

  -- whatever lies in the table and meets the rule is never removed
  pub stage_largest : (P : ℕ → Type 0) (X : List Bool) → ((i : ℕ) → P i → T (at X i)) → ((i : ℕ) → P i → R.Keep P i)
      → (n i : ℕ) → P i → T (at (stage R.keep X n) i)
  unfolding stage
  stage_largest P X within meets zero i h = within i h
  stage_largest P X within meets (suc n) i h =
      let ih : (j : ℕ) → P j → T (at (stage R.keep X n) j) = stage_largest P X within meets n in
      let Y = stage R.keep X n in
      subst T (sym (at_round R.keep Y i)) (and_T (at Y i) (R.keep Y i) (ih i h)
      (R.complete Y i (R.mono P (λ j. T (at Y j)) ih i (meets i h))))

-- removal in any order: a table between what is left in the end and where it began
pub record Between (R : Rule) (X Y : List Bool) : Type 0 where
  pub inside : (i : ℕ) → T (at Y i) → T (at X i)
  pub around : (i : ℕ) → T (at (stage R.keep X (ones X)) i) → T (at Y i)

module _ (R : Rule) (X Y : List Bool) where
  pub between_start : Between R X X
  between_start = record { inside = λ i t. t; around = λ i t. stage_within R.keep X (ones X) i t }

  -- an entry that fails the test may be cleared
  pub between_clear : (Z : List Bool) (i : ℕ) → Between R X Y → T (not (R.keep Y i))
      → ((j : ℕ) → T (at Z j) → T (at Y j)) → ((j : ℕ) → j ≢ i → T (at Y j) → T (at Z j)) → Between R X Z
  between_clear Z i B bad sub other = record {
    inside = λ j t. B.inside j (sub j t);
    around = λ j t. elim (ℕ_discrete j i) [
      | yes e ↦ absurd (T_not (R.keep Y i) bad (kept (subst (λ (k : ℕ). T (at (stage R.keep X (ones X)) k)) e t)))
      | no n
          ↦ other j n (B.around j t)
    ];
  }
    where
      kept : T (at (stage R.keep X (ones X)) i) → T (R.keep Y i)
      kept t = R.complete Y i (R.mono (λ j. T (at (stage R.keep X (ones X)) j)) (λ j. T (at Y j)) B.around i
          (stage_keeps R X (ones X) (omega arith) i t))

  -- where every entry passes, the removal is done
  pub between_done : Between R X Y → ((i : ℕ) → T (at Y i) → T (R.keep Y i)) → (n : ℕ) → ones X ≤ n → (i : ℕ)
      → T (at Y i) ↔ T (at (stage R.keep X n) i)
  between_done B all n l i = (
    λ t. stage_largest R (λ j. T (at Y j)) X B.inside (λ j u. R.sound Y j (all j u)) n i t,
    λ t. B.around i (stage_largest R (λ j. T (at (stage R.keep X n) j)) X (stage_within R.keep X n)
        (stage_keeps R X n l) (ones X) i t),
  )

replicate_in : (n i : ℕ) → T (at (replicate n true) i) → i < n
replicate_in (suc n) zero t = omega arith
replicate_in (suc n) (suc i) t = let h = replicate_in n i t in omega arith
replicate_in zero i t = elim t [ ]

pub at_table : (n : ℕ) (p : ℕ → Bool) (i : ℕ) → T (at (table n p) i) ↔ ((i < n) × T (p i))
unfolding table
at_table n p i =
    let e : at (sieve p 0 (replicate n true)) i ≡ (at (replicate n true) i && p i) = at_sieve p 0
    (replicate n true) i ∙ ap (λ (k : ℕ). at (replicate n true) i && p k) (omega arith) in (
      λ t. let u : T (at (replicate n true) i && p i) = subst T e t in (
        replicate_in n i (and_left (at (replicate n true) i) (p i) u),
        and_right (at (replicate n true) i) (p i) u,
      ),
      λ h. subst T (sym e) (and_T (at (replicate n true) i) (p i)
          (subst T (sym (get_or-replicate n i true false h.0)) tt) h.1),
    )

ones_replicate : (n : ℕ) → ones (replicate n true) ≡ n
unfolding ones
ones_replicate zero = refl
ones_replicate (suc n) = ap suc (ones_replicate n)

pub ones_table : (n : ℕ) (p : ℕ → Bool) → ones (table n p) ≤ n
unfolding table
ones_table n p = omega (arith, ones_sieve p 0 (replicate n true), ones_replicate n)

-- no more entries are set than there are; so there is room while one is not marked, and marking it raises the count
pub ones_le : (X : List Bool) → ones X ≤ length X
unfolding ones
ones_le [] = omega arith
ones_le (true ∷ X) = omega (arith, ones_le X)
ones_le (false ∷ X) = omega (arith, ones_le X)

pub ones_room : (X : List Bool) (i : ℕ) → i < length X → T (not (at X i)) → ones X < length X
unfolding ones
ones_room [] i l t = absurd (omega arith)
ones_room (false ∷ X) zero l t = omega (arith, ones_le X)
ones_room (true ∷ X) (suc i) l t = let h = ones_room X i (omega arith) t in omega arith
ones_room (false ∷ X) (suc i) l t = let h = ones_room X i (omega arith) t in omega arith
ones_room (true ∷ X) zero l t = elim t [ ]

pub ones_set : (X : List Bool) (i : ℕ) → i < length X → T (not (at X i)) → ones (set X i true) ≡ suc (ones X)
unfolding ones
ones_set [] i l t = absurd (omega arith)
ones_set (false ∷ X) zero l t = refl
ones_set (true ∷ X) (suc i) l t = ap suc (ones_set X i (omega arith) t)
ones_set (false ∷ X) (suc i) l t = ones_set X i (omega arith) t
ones_set (true ∷ X) zero l t = elim t [ ]

-- lengths of tables
length_sieve : (p : ℕ → Bool) (i : ℕ) (X : List Bool) → length (sieve p i X) ≡ length X
unfolding sieve
length_sieve p i [] = refl
length_sieve p i (b ∷ X) = ap suc (length_sieve p (suc i) X)

pub length_table : (n : ℕ) (p : ℕ → Bool) → length (table n p) ≡ n
unfolding table
length_table n p = length_sieve p 0 (replicate n true) ∙ length-replicate n true

pub length_stage : (keep : List Bool → ℕ → Bool) (X : List Bool) (n : ℕ) → length (stage keep X n) ≡ length X
unfolding stage round
length_stage keep X zero = refl
length_stage keep X (suc n) = length_sieve (keep (stage keep X n)) 0 (stage keep X n) ∙ length_stage keep X n

-- two tables of the same length with the same entries
pub same_table : (X Y : List Bool) → length X ≡ length Y → ((i : ℕ) → T (at X i) ↔ T (at Y i)) → X ≡ Y
same_table X Y l e = ext_get_or false X Y l (λ i h. go (at X i) (at Y i) (e i))
  where
    go : (a b : Bool) → T a ↔ T b → a ≡ b
    go true true f = refl
    go false false f = refl
    go true false f = absurd (f.0 tt)
    go false true f = absurd (f.1 tt)
