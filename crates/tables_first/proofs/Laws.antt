-- Laws of the first cut: masks, a row, one row more.
use mathlib.Core.Path.{◌≡◌, refl, sym, subst, ap, ◌∙◌}
use mathlib.Core.Logic.{◌⊎◌, inl, inr, ⊎_elim}
use mathlib.Core.Bool.{Bool, true, false, not, ◌&&◌}
use mathlib.Core.List.{List, ◌++◌}
use Prim.Native.Nat.{ℕ, ◌+◌, ◌-◌, ◌*◌, ◌/◌, ◌≤◌, ◌<◌}
use native.Mathlib.Nat.{add-mul}
use native.Mathlib.Decide.{ℕ_discrete}
use native.Mathlib.Omega.{arith}
use lib.Dec.{T}
use lib.ListN.{length, get_or, set, take, drop, get_or-eq_default}
use lib.Seq.{get_or-set_same, get_or-set_other}
use Rattle.systems.specs.Tests.{at, stays}
use Rattle.systems.specs.Bools.{and_right}
use Rattle.bitmaps.specs.Bits.{bit_at, byte_of, written}
use Rattle.bitmaps.specs.BitLaws.{written_at, bit_of, less}
use Rattle.bitmaps.specs.Packed.{Packed, Bitmap, packed, bytes_for}
use Rattle.move_tables.specs.Moves.{no_move}
use Rattle.move_tables.specs.MoveLaws.{decode_none, decode_some}
use Rattle.tables_rows.specs.Raster.{part, set_at}
use Rattle.tables_rows.specs.RasterLaws.{row_back, row_back_length, row_put, row_put_length, row_put_outside, row_put_here, row_put_else, row_put_more}
use Rattle.tables_count.specs.Pairs.{passing, pairs_set}
use Rattle.tables_count.proofs.PassingLaws.{passing_none, passing_all, pairs_more, pairs_same}
use Rattle.tables_ranges.specs.Cut.{Cut, from_bit}
use Rattle.tables_ranges.specs.CutLaws.{cut_all, cut_same}
use Rattle.tables_runs.specs.Runs.{goes, landing, Within}
use Rattle.tables_runs.specs.RunsLaws.{zero_byte}
use Rattle.tables_first.specs.Cuts.{Cuts}
use Rattle.tables_first.specs.Masks.{Mask, Masks, passes}
use Rattle.tables_first.specs.First.{First, FirstRow, FirstRows}

-- the spare bits of a bitmap are 0
spare_bit : {w : ℕ} {X : List Bool} {d k : List ℕ} → Packed w X d k → (t : ℕ) → w ≤ t → t / 8 < bytes_for w
    → bit_at k t ≡ false
unfolding packed
spare_bit {w} {X} {d} {k} P t l h = bit_of (at X) k t (ap (λ (x : List ℕ). get_or x (t / 8) 0) P.is
    ∙ written_at (byte_of (at X)) (bytes_for w) d (t / 8) h)
    ∙ get_or-eq_default X false (omega (arith, P.long))

-- a bit of a copy, and of bytes of 0
pub copied_bit : (k d : List ℕ) (b t : ℕ) → t / 8 < b → bit_at (written (λ i. get_or k i 0) b d) t ≡ bit_at k t
unfolding bit_at
copied_bit k d b t h = rw (written_at (λ i. get_or k i 0) b d (t / 8) h)

pub zero_bit : (d : List ℕ) (b t : ℕ) → t / 8 < b → bit_at (written (λ i. 0) b d) t ≡ false
zero_bit d b t h = zero_byte (written (λ i. 0) b d) (t / 8) (written_at (λ i. 0) b d (t / 8) h) t refl

-- any row lies within all its bits
pub within_all : (w : ℕ) (k : List ℕ) → Within w k 0 w
within_all w k = record {
  ordered = omega arith;
  inside = omega arith;
  outside = λ i h o. ⊎_elim (λ l. absurd (omega arith)) (λ l. absurd (omega arith)) o;
}

-- a copy of `holds`, cut by step c with `holds` as its source
pub mask_is : (holds rm d : List ℕ) (w steps c : ℕ) {row : List ℕ}
    → Cut 0 w (landing holds rm steps c) (written (λ i. get_or holds i 0) (bytes_for w) d) row
    → Mask rm holds w steps c row
mask_is holds rm d w steps c C t h = C.inside t (omega arith) h
    ∙ ap (λ (x : Bool). x && landing holds rm steps c t) (copied_bit holds d (bytes_for w) t (omega arith))

-- one mask more, in its place
pub masks_more : (rm holds : List ℕ) (w steps c b : ℕ) (k y : List ℕ) → b ≡ bytes_for w → steps * bytes_for w ≤ length k
    → c < steps → length y ≡ length (take (c * b + b - c * b) (drop (c * b) k)) → Masks rm holds w steps c k
    → Mask rm holds w steps c y → (let k' = take (c * b) k ++ (y ++ drop (c * b + b - c * b) (drop (c * b) k)) in
    (length k' ≡ length k) × Masks rm holds w steps (c + 1) k')
masks_more rm holds w steps c b k y e room h long old new =
    let size = row_back_length w c b k y e steps room h long in
    rw (row_back w c b k y e) (
      row_put_length steps (bytes_for w) k c y room h size,
      row_put_more steps (bytes_for w) k c y room h size (Mask rm holds w steps) old new,
    )

module _ (lm masks : List ℕ) (w steps s c t : ℕ) where
  -- a step that the left does not make
  passes_none : goes lm steps c s ≡ no_move → passes lm masks w steps s c t ≡ true
  unfolding passes stays
  passes_none e = rw (decode_none (goes lm steps c s) e)

  passes_some : (goes lm steps c s ≡ no_move → ⊥) → passes lm masks w steps s c t ≡ set_at w masks c t
  unfolding passes stays
  passes_some e = rw (decode_some (goes lm steps c s) e)

module _ (lm masks : List ℕ) (w steps s c : ℕ) where
  pub mask_none : {row : List ℕ} → goes lm steps c s ≡ no_move → Cut 0 w (passes lm masks w steps s c) row row
  mask_none e = cut_all (λ t p q. passes_none lm masks w steps s c t e)

  pub mask_cuts : {row row' : List ℕ} → (goes lm steps c s ≡ no_move → ⊥)
      → Cut 0 w (from_bit (part (bytes_for w) c masks) 0 0) row row' → Cut 0 w (passes lm masks w steps s c) row row'
  unfolding from_bit
  mask_cuts e C = cut_same (λ t p q. let f : 0 + (t - 0) ≡ t = omega arith in
      ap (bit_at (part (bytes_for w) c masks)) f ∙ sym (passes_some lm masks w steps s c t e)) C

-- a row of a left state that is not safe is empty
pub row_empty : {lm keep holds masks : List ℕ} {w steps s : ℕ} {row : List ℕ} → bit_at keep s ≡ false
    → ((t : ℕ) → t / 8 < bytes_for w → bit_at row t ≡ false)
    → FirstRow lm keep holds masks w steps s row × (0 ≡ passing (bit_at row) w)
row_empty {w = w} {row = row} e f = (
  record {
    spare = λ t l h. f t h;
    kept = λ t h x. absurd (subst T (f t (omega arith)) x);
    gone = λ t h k x. absurd (subst T e k);
  },
  sym (passing_none (bit_at row) w (λ t h. f t (omega arith))),
)

-- the row of one that is safe has been cut by the masks of all steps
pub row_cut : {lm keep holds masks : List ℕ} {w steps s : ℕ} {row : List ℕ} → Bitmap w holds → bit_at keep s ≡ true
    → Cuts w (bit_at holds) (λ c. ⊥) (passes lm masks w steps s) steps row → FirstRow lm keep holds masks w steps s row
row_cut B e A = record {
  spare = λ t l h. A.spare t l h ∙ spare_bit B.is t l h;
  kept = λ t h x. let (y, all) = A.kept t h x in
      (subst T (sym e) tt, (y, λ c l. ⊎_elim (λ z. absurd z) (λ z. z) (all c l)));
  gone = λ t h k x. A.gone t h x;
}

-- one row more
module _ {lm keep holds masks : List ℕ} {w steps : ℕ} {d : List ℕ} where
  pub rows_none : (stamps : List ℕ) → FirstRows lm keep holds masks 0 w steps d d stamps 0
  unfolding pairs_set
  rows_none stamps = record {
    sized = refl;
    past = λ i h. refl;
    rows = λ s h. absurd (omega arith);
    stamped = λ s h. absurd (omega arith);
    full = λ s h. absurd (omega arith);
    counted = refl;
  }

  module _ {n s : ℕ} {k stamps : List ℕ} {r : ℕ} (A : FirstRows lm keep holds masks s w steps d k stamps r)
      (h : s < n) (room : n * bytes_for w ≤ length d) (y : List ℕ) (long : length y ≡ bytes_for w)
      (here : FirstRow lm keep holds masks w steps s y) (m v : ℕ) (count : m ≡ passing (bit_at y) w)
      (stamp : (v ≤ 1) × (v ≡ 0 → m ≡ passing (bit_at holds) w)) (fits : s < length stamps) where
    space : n * bytes_for w ≤ length k
    space = omega (arith, A.sized)

    pub rows_more : FirstRows lm keep holds masks (s + 1) w steps d (row_put (bytes_for w) k s y) (set stamps s v)
        (r + m)
    rows_more = record {
      sized = row_put_length n (bytes_for w) k s y space h long ∙ A.sized;
      past = λ i l. row_put_outside n (bytes_for w) k s y space h long i
          (inr (omega (arith, add-mul s 1 (bytes_for w)))) ∙ A.past i (omega (arith, add-mul s 1 (bytes_for w)));
      rows = row_put_more n (bytes_for w) k s y space h long (FirstRow lm keep holds masks w steps) A.rows here;
      stamped = stamp_more (λ i x. x ≤ 1) A.stamped stamp.0;
      full = row_put_more n (bytes_for w) k s y space h long
          (λ i row. get_or (set stamps s v) i 0 ≡ 0 → passing (bit_at row) w ≡ passing (bit_at holds) w)
          (λ i l e. A.full i l (sym (get_or-set_other stamps s i v 0 (λ z. omega arith)) ∙ e))
          (λ e. sym count ∙ stamp.1 (sym (get_or-set_same stamps s v 0 fits) ∙ e));
      counted = sum;
    }
      where
        stamp_more : (P : ℕ → ℕ → Type 0) → ((i : ℕ) → i < s → P i (get_or stamps i 0)) → P s v → (i : ℕ) → i < s + 1
            → P i (get_or (set stamps s v) i 0)
        stamp_more P old new i l = elim (ℕ_discrete i s) [
          | yes e ↦ rw (e, get_or-set_same stamps s v 0 fits) new
          | no e ↦ rw (get_or-set_other stamps s i v 0 e)
              (old i (⊎_elim (λ a. a) (λ a. absurd (e (omega arith))) (less i s)))
        ]

        new : List ℕ
        new = row_put (bytes_for w) k s y

        last : passing (set_at w new s) w ≡ passing (bit_at y) w
        last = ap (λ (x : List ℕ). passing (bit_at x) w) (row_put_here n (bytes_for w) k s y space h long)

        sum : r + m ≡ pairs_set (set_at w new) w (s + 1)
        sum = omega (
          arith,
          A.counted,
          count,
          last,
          pairs_more (set_at w new) w s,
          pairs_same (set_at w new) (set_at w k) w s (λ i t l q. ap (λ (x : List ℕ). bit_at x t)
              (row_put_else n (bytes_for w) k s y space h long i (omega arith) (λ z. omega arith))),
        )

no_T : (a b : Bool) → T a → T (not (a && b)) → T (not b)
no_T true b x y = y
no_T false b x y = absurd x

-- with the masks known, that is the first cut
module _ (lm rm holds masks : List ℕ) (w steps : ℕ) (M : Masks rm holds w steps steps masks) where
  module _ (s c t : ℕ) (hc : c < steps) (ht : t < w) where
    masked : (goes lm steps c s ≡ no_move → ⊥)
        → passes lm masks w steps s c t ≡ (bit_at holds t && landing holds rm steps c t)
    masked e = passes_some lm masks w steps s c t e ∙ M c hc t ht

    passed : T (passes lm masks w steps s c t) → (goes lm steps c s ≡ no_move) ⊎ T (landing holds rm steps c t)
    passed x = elim (ℕ_discrete (goes lm steps c s) no_move) [
      | yes e ↦ inl e
      | no e ↦ inr (and_right (bit_at holds t) (landing holds rm steps c t) (subst T (masked e) x))
    ]

    failed : T (bit_at holds t) → T (not (passes lm masks w steps s c t))
        → (goes lm steps c s ≡ no_move → ⊥) × T (not (landing holds rm steps c t))
    failed y x =
        let move : goes lm steps c s ≡ no_move → ⊥ =
        λ e. subst (λ (b : Bool). T (not b)) (passes_none lm masks w steps s c t e) x in
        (move, no_T (bit_at holds t) (landing holds rm steps c t) y (subst (λ (b : Bool). T (not b)) (masked move) x))

  pub first_is : {keep : List ℕ} {n : ℕ} {d k stamps : List ℕ} {count : ℕ}
      → FirstRows lm keep holds masks n w steps d k stamps count → First lm rm keep holds n w steps d k stamps count
  first_is {k = k} A = record {
    sized = A.sized;
    past = A.past;
    spare = λ s t h. (A.rows s h).spare t;
    kept = λ s t h l x. let (a, (b, all)) = (A.rows s h).kept t l x in (a, (b, λ c m. passed s c t m l (all c m)));
    gone = λ s t h l a b. ⊎_elim inl (λ (c, m, x). inr (c, m, failed s c t m l b x)) ((A.rows s h).gone t l a b);
    full = λ u h e. passing_all (set_at w k u) (bit_at holds) w
        (λ t l x. ((A.rows u h).kept t l x).1.0) (A.full u h e);
    stamped = A.stamped;
    counted = A.counted;
  }
