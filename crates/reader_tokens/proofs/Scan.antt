-- Laws of `run`, `past`, `agree` and `numeral_value`: one step, and the end.
use mathlib.Core.Path.{◌≡◌, refl, ap, ◌∙◌, sym}
use mathlib.Core.Bool.{Bool, true, false}
use Rattle.std.specs.Prelude.{cond, eqb, take, min}
use Rattle.std.proofs.lemmas.List.{drop_min, length-drop, take_all}
use mathlib.Core.List.{List, [], ◌∷◌}
use Prim.Native.Nat.{ℕ, zero, suc, ◌+◌, ◌-◌, ◌*◌, ◌<◌, ◌≤◌}
use native.Mathlib.Numerals.{add-one}
use native.Mathlib.Omega.{arith}
use Prim.Native.Char.{code}
use lib.ListN.{length, get_or, drop, drop_of_length-le}
use lib.Seq.{drop-cons}
use lib.Dec.{leb}
use borrow.Author.Tests.{eq-eqb, ne_eqb, leb-true}
use Rattle.reader_tokens.specs.Scan.{is_digit, run, past, numeral_value, over_numeral, clamped, agree}
use Rattle.reader_tokens.specs.Clamped.{clamped_low, clamped_high, by_clamp}

module _ {A : Type 0} (p : A → Bool) (s : List A) (i : ℕ) (d : A) where
  pub past_yes : i < length s → p (get_or s i d) ≡ true → past p s i ≡ past p s (i + 1)
  unfolding run past
  past_yes h e = rw (drop-cons s i d, e, add-one) (omega arith)

  pub past_no : i < length s → p (get_or s i d) ≡ false → past p s i ≡ i
  unfolding run past
  past_no h e = rw (drop-cons s i d, e) (omega arith)

pub past_end : {A : Type 0} (p : A → Bool) (s : List A) (i : ℕ) → length s ≤ i → past p s i ≡ i
unfolding run past
past_end p s i h = rw (drop_of_length-le s h) (omega arith)

-- what is left of a list from p on, as the code has it
pub rest : (p : ℕ) (s : List ℕ) → take (length s - min p (length s)) (drop (min p (length s)) s) ≡ drop p s
rest p s =
    let l : length (drop p s) ≡ length s - p = length-drop p s in
    rw (drop_min p s) (take_all (length s - min p (length s)) (drop p s) (omega arith))

-- `agree` where a list is too short, and where both are long enough
pub agree_short : (n : ℕ) (x y : List ℕ) → length x < n → agree n x y ≡ false
unfolding agree
agree_short zero x y h = absurd (omega arith)
agree_short (suc n) [] y h = refl
agree_short (suc n) (a ∷ x) [] h = refl
agree_short (suc n) (a ∷ x) (b ∷ y) h =
    let k : suc (length x) < suc n = h in
    rw (agree_short n x y (omega arith)) (by (eqb a b))
  where
    by : (t : Bool) → cond t false false ≡ false
    by true = refl
    by false = refl

pub agree_no_more : (n : ℕ) (x y : List ℕ) → length y < n → agree n x y ≡ false
unfolding agree
agree_no_more zero x y h = absurd (omega arith)
agree_no_more (suc n) [] y h = refl
agree_no_more (suc n) (a ∷ x) [] h = refl
agree_no_more (suc n) (a ∷ x) (b ∷ y) h =
    let k : suc (length y) < suc n = h in
    rw (agree_no_more n x y (omega arith)) (by (eqb a b))
  where
    by : (t : Bool) → cond t false false ≡ false
    by true = refl
    by false = refl

-- one step of `agree`, where n bytes are left to compare
module _ (s : List ℕ) (i : ℕ) (t : List ℕ) (j : ℕ) where
  module _ (l : i < length s) (k : j < length t) where
    pub agree_no : (n : ℕ) → 0 < n → (get_or s i 0 ≡ get_or t j 0 → ⊥) → agree n (drop i s) (drop j t) ≡ false
    unfolding agree
    agree_no zero h e = absurd (omega arith)
    agree_no (suc n) h e = rw (drop-cons s i 0, drop-cons t j 0, ne_eqb (get_or s i 0) (get_or t j 0) e)

    pub agree_yes : (n : ℕ) → 0 < n → get_or s i 0 ≡ get_or t j 0 → agree n (drop i s) (drop j t) ≡ agree (n - 1) (drop
        (i + 1) s) (drop (j + 1) t)
    unfolding agree
    agree_yes zero h e = absurd (omega arith)
    agree_yes (suc n) h e =
        let one : suc n - 1 ≡ n = omega arith in
        rw (one, drop-cons s i 0, drop-cons t j 0, eq-eqb (get_or s i 0) (get_or t j 0) e, add-one i, add-one j)

pub agree_none : (n : ℕ) (x y : List ℕ) → n ≤ 0 → agree n x y ≡ true
unfolding agree
agree_none zero x y h = refl
agree_none (suc n) x y h = absurd (omega arith)

-- numerals: a digit more, the last digit, the end
module _ (s : List ℕ) (i v : ℕ) where
  pub value_yes : i < length s → is_digit (get_or s i 0) ≡ true → numeral_value v (drop i s) ≡ numeral_value (v * 10 +
      (get_or s i 0 - code "0")) (drop (i + 1) s)
  unfolding numeral_value
  value_yes h e = rw (drop-cons s i 0, e, add-one i)

  pub value_no : i < length s → is_digit (get_or s i 0) ≡ false → numeral_value v (drop i s) ≡ v
  unfolding numeral_value
  value_no h e = rw (drop-cons s i 0, e)

  pub value_end : length s ≤ i → numeral_value v (drop i s) ≡ v
  unfolding numeral_value
  value_end h = rw (drop_of_length-le s h)

pub digit_low : (b : ℕ) → is_digit b ≡ true → code "0" ≤ b
unfolding is_digit
digit_low b h = by (leb (code "0") b) refl
  where
    never : ◌≡◌ {A = Bool} false true → code "0" ≤ b
    never z = let n : ◌≡◌ {A = ℕ} 0 1 = cc in absurd (omega arith)

    by : (t : Bool) → leb (code "0") b ≡ t → code "0" ≤ b
    by true e = leb-true (code "0") b e
    by false e = never (rw e at h)

pub clamped_small : (n : ℕ) → n ≤ over_numeral → clamped n ≡ n
clamped_small n h = by_clamp (λ (m : ℕ). m ≡ n) n (λ l. refl) (λ l. omega arith)

pub clamped_twice : (n : ℕ) → clamped (clamped n) ≡ clamped n
clamped_twice n = by_clamp (λ (m : ℕ). clamped m ≡ m) n (λ l. clamped_low n l) (λ l. clamped_high over_numeral
    (omega arith))

pub clamped_digit : (v d : ℕ) → clamped (clamped v * 10 + d) ≡ clamped (v * 10 + d)
clamped_digit v d = by_clamp (λ (m : ℕ). clamped (m * 10 + d) ≡ clamped (v * 10 + d)) v (λ l. refl) (λ l. clamped_high
    (over_numeral * 10 + d) (omega arith) ∙ sym (clamped_high (v * 10 + d) (omega arith)))

pub clamped_value : (x : List ℕ) (v : ℕ) → clamped (numeral_value (clamped v) x) ≡ clamped (numeral_value v x)
unfolding numeral_value
clamped_value [] v = clamped_twice v
clamped_value (b ∷ x) v = by (λ (n : ℕ). clamped_value x n) (is_digit b) refl
  where
    by : ((n : ℕ) → clamped (numeral_value (clamped n) x) ≡ clamped (numeral_value n x)) → (t : Bool) → is_digit b ≡ t → clamped (numeral_value
        (clamped v) (b ∷ x)) ≡ clamped (numeral_value v (b ∷ x))
    by again true e =
        rw e (sym (again (clamped v * 10 + (b - code "0"))) ∙ ap (λ (n : ℕ). clamped (numeral_value n x)) (clamped_digit v
        (b - code "0")) ∙ again (v * 10 + (b - code "0")))
    by again false e = rw e (clamped_twice v)
