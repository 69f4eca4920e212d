-- Laws of the proofs of this crate: runs that grow, and what a run says of the states in it.
use mathlib.Core.Path.{◌≡◌, sym, ap, ◌∙◌}
use mathlib.Core.Logic.{⊎_elim, ◌≢◌}
use mathlib.Core.Bool.{Bool, true, false}
use mathlib.Core.List.{List}
use Prim.Native.Nat.{ℕ, ◌+◌, ◌-◌, ◌*◌, ◌/◌, ◌%◌, ◌≤◌, ◌<◌}
use native.Mathlib.Nat.{mul-le-mul_right, add-mul}
use native.Mathlib.Decide.{ℕ_discrete}
use native.Mathlib.Omega.{arith}
use lib.Arith.{digits_lt}
use lib.ListN.{length, get_or, set}
use lib.Seq.{get_or-set_same, get_or-set_other}
use Rattle.systems.specs.Tests.{lands}
use Rattle.limits.specs.Limits.{state_limit, step_limit, move_limit}
use Rattle.bitmaps.specs.Bits.{bit_at}
use Rattle.bitmaps.specs.BitLaws.{less}
use Rattle.move_tables.specs.Moves.{decode, no_move, Bounded}
use Rattle.move_tables.specs.MoveLaws.{target}
use Rattle.tables_ranges.specs.Cut.{Cut, from_bit}
use Rattle.tables_ranges.specs.CutLaws.{cut_same, cut_all, cut_clear}
use Rattle.tables_runs.specs.Runs.{Run, Blank, goes, landing}
use Rattle.tables_runs.specs.RunsLaws.{landing_some, blank_bit}

-- a state by itself
pub run_one : (m : List ℕ) (w steps c t : ℕ) → t < w → Run m w steps c t 2
run_one m w steps c t h = record {
  some = omega arith;
  inside = omega arith;
  same = λ e i l. let f : t + i ≡ t = omega arith in ap (goes m steps c) f;
  along = λ e. absurd (omega arith);
  there = λ e. absurd (omega arith);
}

-- one state more at the front
module _ {m : List ℕ} {w steps c : ℕ} (t : ℕ) {f : ℕ} (R : Run m w steps c (t + 1) f) where
  later : (i : ℕ) → 0 < i → goes m steps c (t + i) ≡ goes m steps c (t + 1 + (i - 1))
  later i h = let e : t + i ≡ t + 1 + (i - 1) = omega arith in ap (goes m steps c) e

  first : (i : ℕ) → i ≡ 0 → goes m steps c (t + i) ≡ goes m steps c t
  first i e = let f : t + i ≡ t = omega arith in ap (goes m steps c) f

  pub run_same : goes m steps c (t + 1) ≡ goes m steps c t → f % 2 ≡ 0 → Run m w steps c t (f + 2)
  run_same e even = record {
    some = omega arith;
    inside = omega (arith, R.inside);
    same = λ z i l. ⊎_elim (λ a. first i (omega arith))
        (λ a. later i a ∙ R.same even (i - 1) (omega arith) ∙ e) (less i 1);
    along = λ z. absurd (omega arith);
    there = λ z. absurd (omega arith);
  }

  pub run_along : goes m steps c (t + 1) ≡ goes m steps c t + 1 → (goes m steps c t ≡ no_move → ⊥) → f % 2 ≡ 1
      → Run m w steps c t (f + 2)
  run_along e n odd = record {
    some = omega arith;
    inside = omega (arith, R.inside);
    same = λ z. absurd (omega arith);
    along = λ z i l. ⊎_elim (λ a. first i (omega arith) ∙ omega arith)
        (λ a. later i a ∙ R.along odd (i - 1) (omega arith) ∙ omega arith) (less i 1);
    there = λ z. n;
  }

  pub run_two : goes m steps c (t + 1) ≡ goes m steps c t + 1 → (goes m steps c t ≡ no_move → ⊥) → f ≡ 2
      → Run m w steps c t 5
  run_two e n two = record {
    some = omega arith;
    inside = omega (arith, R.inside);
    same = λ z. absurd (omega arith);
    along = λ z i l. ⊎_elim (λ a. first i (omega arith) ∙ omega arith)
        (λ a. later i a ∙ last i a l ∙ omega arith) (less i 1);
    there = λ z. n;
  }
    where
      last : (i : ℕ) → 0 < i → i < 2 → goes m steps c (t + 1 + (i - 1)) ≡ goes m steps c t + 1
      last i a l = let g : t + 1 + (i - 1) ≡ t + 1 = omega arith in ap (goes m steps c) g ∙ e

-- the states of a run
module _ {m : List ℕ} {w steps c t e : ℕ} (R : Run m w steps c t e) where
  at_state : (i : ℕ) → t ≤ i → goes m steps c i ≡ goes m steps c (t + (i - t))
  at_state i l = let f : i ≡ t + (i - t) = omega arith in ap (goes m steps c) f

  module _ (source : List ℕ) (o : e % 2 ≡ 1 → ⊥) where
    even : (x : ℕ) → (x % 2 ≡ 1 → ⊥) → x % 2 ≡ 0
    even x n = ⊎_elim (λ l. omega arith) (λ l. absurd (n (omega arith))) (less (x % 2) 1)

    -- all land as the first does
    all_alike : (i : ℕ) → t ≤ i → i < t + e / 2 → landing source m steps c i ≡ landing source m steps c t
    unfolding landing
    all_alike i p q =
        ap (λ (x : ℕ). lands (bit_at source) (decode x)) (at_state i p ∙ R.same (even e o) (i - t) (omega arith))

    -- nowhere, or not in the source
    pub run_gone : {k k' : List ℕ} → landing source m steps c t ≡ false
        → Cut t (t + e / 2) (λ (i : ℕ). false) k k' → Cut t (t + e / 2) (landing source m steps c) k k'
    run_gone z C = cut_same (λ i p q. sym (all_alike i p q ∙ z)) C

    -- in the source
    pub run_kept : {k : List ℕ} → landing source m steps c t ≡ true → Cut t (t + e / 2) (landing source m steps c) k k
    run_kept z = cut_all (λ i p q. all_alike i p q ∙ z)

  module _ (B : Bounded w steps m) (hc : c < steps) (ht : t < w) (n : goes m steps c t ≡ no_move → ⊥)
      (o : e % 2 ≡ 1) where
    -- they land on states in a row
    pub run_row : (source : List ℕ) {k k' : List ℕ} → Cut t (t + e / 2) (from_bit source t (goes m steps c t)) k k'
        → Cut t (t + e / 2) (landing source m steps c) k k'
    unfolding from_bit
    run_row source C = cut_same (λ i p q.
        let g : goes m steps c i ≡ goes m steps c t + (i - t) = at_state i p ∙ R.along o (i - t) (omega arith) in
        let l = target B t c ht hc n in
        sym (landing_some source m steps c i (λ z. omega (arith, B.few, R.inside)) ∙ ap (bit_at source) g)) C

    -- the last of which is a state too
    pub row_fits : goes m steps c t + e / 2 ≤ w
    row_fits =
        let i = e / 2 - 1 in
        let g : goes m steps c (t + i) ≡ goes m steps c t + i = R.along o i (omega (arith, R.some)) in
        let l = target B t c ht hc n in
        let last = target B (t + i) c (omega (arith, R.inside, R.some)) hc (λ z. omega (arith, B.few, R.inside)) in
        omega (arith, R.some)

-- a part of the range in which nothing is set
pub blank_cut : {P : ℕ → Bool} {k : List ℕ} {t e : ℕ} (r : ℕ) → Blank k (t / 8) e → r ≤ 8 * e → Cut t r P k k
blank_cut r B l = cut_clear (λ i p q. blank_bit B i (omega arith) (omega arith))

-- where the runs of a step stand
pub run_base : {w steps : ℕ} {m : List ℕ} → Bounded w steps m → (c : ℕ) → c < steps → c * w + w ≤ move_limit
run_base {w} {steps} B c h = omega (
  arith,
  mul-le-mul_right w (let q : c + 1 ≤ step_limit = omega (arith, B.short) in q),
  add-mul c 1 w,
  B.few,
)

pub run_reach : (w steps c t : ℕ) (runs : List ℕ) → steps * w ≤ length runs → c < steps → t < w → c * w + t < length runs
run_reach w steps c t runs room hc ht = omega (arith, digits_lt hc ht)

pub run_few : {m : List ℕ} {w steps c t e : ℕ} → Bounded w steps m → Run m w steps c t e → e ≤ 2 * state_limit + 1
run_few B R = omega (arith, B.few, R.inside)

-- one entry more, from the last to the first
pub runs_set : (m : List ℕ) (w steps c t : ℕ) (runs : List ℕ) (e : ℕ) → c * w + t < length runs → Run m w steps c t e
    → ((x : ℕ) → t + 1 ≤ x → x < w → Run m w steps c x (get_or runs (c * w + x) 0)) → (x : ℕ) → t ≤ x → x < w
    → Run m w steps c x (get_or (set runs (c * w + t) e) (c * w + x) 0)
runs_set m w steps c t runs e l R old x h k = elim (ℕ_discrete x t) [
  | yes q ↦ rw (q, get_or-set_same runs (c * w + t) e 0 l) R
  | no q ↦ rw (get_or-set_other runs (c * w + t) (c * w + x) e 0 (λ z. q (omega arith))) (old x (above q) k)
]
  where
    above : x ≢ t → t + 1 ≤ x
    above q = ⊎_elim (λ a. absurd (q (omega arith))) (λ a. a) (less x (t + 1))

-- one step more
pub runs_more : (m : List ℕ) (w steps c : ℕ) (runs runs' : List ℕ)
    → ((b t : ℕ) → b < c → t < w → Run m w steps b t (get_or runs (b * w + t) 0))
    → ((t : ℕ) → t < w → Run m w steps c t (get_or runs' (c * w + t) 0))
    → ((i : ℕ) → i < c * w → get_or runs' i 0 ≡ get_or runs i 0)
    → (b t : ℕ) → b < c + 1 → t < w → Run m w steps b t (get_or runs' (b * w + t) 0)
runs_more m w steps c runs runs' old new same b t h k = elim (ℕ_discrete b c) [
  | yes q ↦ rw q (new t k)
  | no q ↦ let l : b < c = below q in rw (same (b * w + t) (digits_lt l k)) (old b t l k)
]
  where
    below : b ≢ c → b < c
    below q = ⊎_elim (λ a. a) (λ a. absurd (q (omega arith))) (less b c)
