-- Numbers written one after another: two lists in a row, and rows of equal length.
use mathlib.Core.Path.{◌≡◌, refl, sym, ap, ◌∙◌}
use mathlib.Core.List.{List, [], ◌∷◌, ◌++◌}
use Prim.Native.Nat.{ℕ, zero, suc, ◌+◌, ◌*◌, ◌≤◌, ◌<◌}
use native.Mathlib.Numerals.{add-one}
use native.Mathlib.Omega.{arith}
use lib.ListN.{length, set, length-set}
use Rattle.reader_numbers.specs.Numbers.{put_at, rows}
use Rattle.reader_numbers.proofs.Lengths.{length_rows}

-- a number past the end is dropped
pub set_past : (r : List ℕ) (at x : ℕ) → length r ≤ at → r ≡ set r at x
set_past [] at x h = refl
set_past (y ∷ r) zero x h = absurd (omega (arith, h))
set_past (y ∷ r) (suc at) x h = ap (λ (l : List ℕ). y ∷ l) (set_past r at x (omega (arith, h)))

pub length_put : (r : List ℕ) (at : ℕ) (xs : List ℕ) → length (put_at r at xs) ≡ length r
unfolding put_at
length_put r at [] = refl
length_put r at (x ∷ xs) = length_put (set r at x) (at + 1) xs ∙ length-set r at x

put_append : (r : List ℕ) (at p : ℕ) (xs ys : List ℕ) → p ≡ at + length xs → put_at (put_at r at xs) p ys ≡ put_at r
    at (xs ++ ys)
unfolding put_at
put_append r at p [] ys e = ap (λ (n : ℕ). put_at r n ys) (omega (arith, e))
put_append r at p (x ∷ xs) ys e = put_append (set r at x) (at + 1) p xs ys (omega (arith, e))

-- a list written where the one before it ends
pub joined : {m e : List ℕ} {p : ℕ} (r : List ℕ) (at : ℕ) (xs ys : List ℕ) → m ≡ put_at r at xs → e ≡ put_at m p ys
    → p ≡ at + length xs → e ≡ put_at r at (xs ++ ys)
joined {p = p} r at xs ys first second place =
    second ∙ ap (λ (l : List ℕ). put_at l p ys) first ∙ put_append r at p xs ys place

-- one more row
pub next_row : {m e : List ℕ} {p : ℕ} (r : List ℕ) (at k n : ℕ) (f : ℕ → List ℕ) → ((i : ℕ) → length (f i) ≡ k) → m
    ≡ put_at r at (rows n f) → e ≡ put_at m p (f n) → p ≡ at + n * k → e ≡ put_at r at (rows (n + 1) f)
unfolding rows
next_row r at k n f lengths before row place =
    rw (add-one n) (joined r at (rows n f) (f n) before row (place ∙ ap (λ (l : ℕ). at + l) (sym (length_rows k n f
    lengths))))

-- a loop that writes the rows f 0 to f (n - 1) from `at` on, over what stood there before: what it has written after i
-- of them, at its start, after one row more, and at its end
pub record Written (n at : ℕ) (f : ℕ → List ℕ) (before out : List ℕ) (i : ℕ) : Type 0 where
  pub few : i ≤ n
  pub all : out ≡ put_at before at (rows i f)

module _ {n at : ℕ} {f : ℕ → List ℕ} {before : List ℕ} where
  pub none_written : Written n at f before before 0
  unfolding put_at rows
  none_written = record { few = omega arith; all = refl }

  module _ {out : List ℕ} {i : ℕ} (w : Written n at f before out i) where
    pub one_written :
        (k : ℕ) → ((i : ℕ) → length (f i) ≡ k) → i < n → {after : List ℕ} → after ≡ put_at out (at + i * k) (f i)
        → Written n at f before after (i + 1)
    one_written k lengths l row = record { few = omega arith; all = next_row before at k i f lengths w.all row refl }

    pub all_written : n ≤ i → out ≡ put_at before at (rows n f)
    all_written l = let e : i ≡ n = omega (arith, w.few) in rw e at w.all

    pub same_size : length out ≡ length before
    same_size = ap length w.all ∙ length_put before at (rows i f)
