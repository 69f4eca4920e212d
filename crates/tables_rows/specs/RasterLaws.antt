-- Laws of rasters: their rows as parts, a row put back, a pair taken out.
use Rattle.std.specs.Prelude.{◌≡◌, refl, ◌⊎◌, ◌≢◌, Bool, true, List, ◌++◌, ℕ, ◌+◌, ◌-◌, ◌*◌, ◌/◌, ◌%◌, ◌^◌, ◌≤◌, ◌<◌, set, take}
use Rattle.std.proofs.Math.Path.{sym, ap}
use Rattle.std.proofs.Common.{◌∙◌, inl, inr, mul-le-mul_right, mul-le-mul_left, add-mul, div-add-mod', mod-lt, div-lt_iff_lt-mul, lt-ltb, le-ltb, length-take-le, drop-set-lt}
use Rattle.std.proofs.Math.Logic.{⊎_elim}
use Rattle.std.proofs.Math.Bool.{false}
use Rattle.std.proofs.Math.Decide.{ℕ_discrete}
use native.Mathlib.Omega.{arith}
use Rattle.std.proofs.Math.Arith.{digits_lt, digits_div, digits_mod}
use Rattle.std.proofs.Math.ListN.{length, get_or, drop, length-append, length-drop, length-set, get_or-append, get_or-eq_default}
use Rattle.std.proofs.Math.Seq.{ext_get_or, get_or-take, get_or-drop, get_or-append-add, get_or-set_other, take-set-lt}
use Rattle.std.proofs.lemmas.List.{take-set-le, drop-set-add}
use Rattle.systems.specs.Tests.{at, table}
use Rattle.bitmaps.specs.Bits.{byte_of, written}
use Rattle.bitmaps.specs.BitLaws.{byte_same, written_is, written_at, written_past, written_length, less}
use Rattle.bitmaps.specs.PackedLaws.{packed_bit, packed_clear, packed_self}
use Rattle.bitmaps.specs.Packed.{Packed, packed, bytes_for}
use Rattle.tables_rows.specs.Raster.{Raster, in_row, part, raster, raster_limit, raster_of, row, set_at, without}
use Rattle.limits.specs.Limits.{state_limit, keep_limit, pair_limit}

-- a row's end, in entries or in bytes
pub row_end : (n b s : ℕ) → s < n → s * b + b ≤ n * b
row_end n b s h = omega (arith, mul-le-mul_right b (let q : s + 1 ≤ n = omega arith in q), add-mul s 1 b)

-- the bytes of a raster, the end of a row in it, and the pairs, where the states are within their limit
pub raster_few : (n w : ℕ) → n ≤ state_limit → w ≤ state_limit → n * bytes_for w ≤ raster_limit
raster_few n w h k = omega (arith, mul-le-mul_right (bytes_for w) h, few (bytes_for w) (omega arith))
  where
    few : (b : ℕ) → b ≤ keep_limit → state_limit * b ≤ raster_limit
    few b q = omega arith

pub row_inside : (n w s b : ℕ) → b ≡ bytes_for w → s < n → s * b + b ≤ n * bytes_for w
row_inside n w s b e l = rw e (row_end n (bytes_for w) s l)

pub row_few : (n w s b : ℕ) → b ≡ bytes_for w → n ≤ state_limit → w ≤ state_limit → s < n → s * b + b ≤ raster_limit
row_few n w s b e h k l = omega (arith, row_inside n w s b e l, raster_few n w h k)

pub pairs_few : (n w : ℕ) → n ≤ state_limit → w ≤ state_limit → n * w ≤ pair_limit
pairs_few n w h k = omega (arith, mul-le-mul_right w h, mul-le-mul_left state_limit k)

-- the bytes from row s to its end are the row
pub part_between : (w s b : ℕ) (k : List ℕ) → b ≡ bytes_for w → take (s * b + b - s * b) (drop (s * b) k)
    ≡ part (bytes_for w) s k
part_between w s b k e =
    let f : s * b + b - s * b ≡ b = omega arith in
    ap (λ (x : ℕ). take x (drop (s * b) k)) f ∙ ap (λ (x : ℕ). part x s k) e

pub part_length : (n b : ℕ) (k : List ℕ) (s : ℕ) → n * b ≤ length k → s < n → length (part b s k) ≡ b
part_length n b k s h l = length-take-le b (drop (s * b) k) (rw (length-drop (s * b) k)
    (omega (arith, row_end n b s l)))

pub row_length : (n w : ℕ) (X : List Bool) (s : ℕ) → length X ≡ n * w → s < n → length (row w X s) ≡ w
row_length n w X s h l = length-take-le w (drop (s * w) X) (rw (length-drop (s * w) X)
    (omega (arith, row_end n w s l)))

pub part_at : (b : ℕ) (k : List ℕ) (s i : ℕ) → i < b → get_or (part b s k) i 0 ≡ get_or k (s * b + i) 0
part_at b k s i h = get_or-take b (drop (s * b) k) i 0 h ∙ get_or-drop (s * b) k i 0

pub row_at : (w : ℕ) (X : List Bool) (s t : ℕ) → t < w → at (row w X s) t ≡ at X (s * w + t)
row_at w X s t h = get_or-take w (drop (s * w) X) t false h ∙ get_or-drop (s * w) X t false

row_past : (n w : ℕ) (X : List Bool) (s t : ℕ) → length X ≡ n * w → s < n → w ≤ t → at (row w X s) t ≡ false
row_past n w X s t h l m = get_or-eq_default (row w X s) false (rw (row_length n w X s h l) m)

row_in : (n w : ℕ) (X : List Bool) (s t : ℕ) → length X ≡ n * w → s < n → at (row w X s) t ≡ in_row w X s t
unfolding in_row
row_in n w X s t h l = ⊎_elim (λ m. rw (lt-ltb t w m) (row_at w X s t m))
    (λ m. rw (le-ltb t w m) (row_past n w X s t h l m)) (less t w)

-- such a raster is the raster of its table
pub raster_is : {n w : ℕ} {X : List Bool} {d k : List ℕ} → 0 < w → Raster n w X d k → k ≡ raster_of n w X d
unfolding raster_of raster written packed
raster_is {n} {w} {X} {d} {k} p R =
    written_is (λ i. byte_of (in_row w X (i / bytes_for w)) (i % bytes_for w)) (n * bytes_for w) k d R.room
    R.sized inside
    R.past
  where
    wide : 0 < bytes_for w
    wide = omega arith

    inside : (i : ℕ) → i < n * bytes_for w → get_or k i 0 ≡ byte_of (in_row w X (i / bytes_for w)) (i % bytes_for w)
    inside i h =
        let s = i / bytes_for w in
        let t = i % bytes_for w in
        let l : t < bytes_for w = mod-lt i wide in
        let m : s < n = (div-lt_iff_lt-mul wide).1 h in
        let e : s * bytes_for w + t ≡ i = div-add-mod' i (bytes_for w) in
        ap (λ (x : ℕ). get_or k x 0) (sym e) ∙ sym (part_at (bytes_for w) k s t l)
        ∙ ap (λ (y : List ℕ). get_or y t 0) (R.rows s m).is
        ∙ written_at (byte_of (at (row w X s))) (bytes_for w) (part (bytes_for w) s k) t l
        ∙ byte_same (at (row w X s)) (in_row w X s) t (λ j q. row_in n w X s (8 * t + j) R.long m)

-- the raster of a table is such a raster
pub raster_rows : {n w : ℕ} {X : List Bool} (d : List ℕ) → length X ≡ n * w → n * bytes_for w ≤ length d
    → Raster n w X d (raster_of n w X d)
unfolding raster_of raster written packed
raster_rows {n} {w} {X} d long room =
    let byte : ℕ → ℕ = λ i. byte_of (in_row w X (i / bytes_for w)) (i % bytes_for w) in
    let k = written byte (n * bytes_for w) d in
    let size : length k ≡ length d = written_length byte (n * bytes_for w) d room in
    record {
      long = long;
      room = room;
      sized = size;
      rows = λ s h. let l : length (part (bytes_for w) s k) ≡ bytes_for w = part_length n (bytes_for w) k s
          (omega arith) h in
          record {
            long = row_length n w X s long h;
            room = omega arith;
            is = written_is (byte_of (at (row w X s))) (bytes_for w) (part (bytes_for w) s k) (part (bytes_for w) s k)
                (omega arith)
                refl
                (λ i q. part_at (bytes_for w) k s i q
                ∙ written_at byte (n * bytes_for w) d (s * bytes_for w + i) (digits_lt h q)
                ∙ rw (digits_div s q, digits_mod s q)
                (sym (byte_same (at (row w X s)) (in_row w X s) i (λ j z. row_in n w X s (8 * i + j) long h))))
                (λ i q. refl);
          };
      past = written_past byte (n * bytes_for w) d;
    }

-- a part put back
module _ (a b : ℕ) (k y : List ℕ) (fits : a + b ≤ length k) (long : length y ≡ b) where
  put : List ℕ
  put = take a k ++ (y ++ drop b (drop a k))

  front : length (take a k) ≡ a
  front = length-take-le a k (omega arith)

  put_before : (i : ℕ) → i < a → get_or put i 0 ≡ get_or k i 0
  unfolding put
  put_before i h = get_or-append (take a k) (y ++ drop b (drop a k)) 0 i (rw front h) ∙ get_or-take a k i 0 h

  put_in : (i : ℕ) → i < b → get_or put (a + i) 0 ≡ get_or y i 0
  unfolding put
  put_in i h = ap (λ (x : ℕ). get_or (take a k ++ (y ++ drop b (drop a k))) (x + i) 0) (sym front)
      ∙ get_or-append-add (take a k) (y ++ drop b (drop a k)) i 0
      ∙ get_or-append y (drop b (drop a k)) 0 i (rw long h)

  put_after : (i : ℕ) → a + b ≤ i → get_or put i 0 ≡ get_or k i 0
  unfolding put
  put_after i h =
      let e : i ≡ length (take a k) + (length y + (i - (a + b))) = omega (arith, front, long) in
      let f : a + (b + (i - (a + b))) ≡ i = omega arith in
      ap (λ (x : ℕ). get_or (take a k ++ (y ++ drop b (drop a k))) x 0) e
      ∙ get_or-append-add (take a k) (y ++ drop b (drop a k)) (length y + (i - (a + b))) 0
      ∙ get_or-append-add y (drop b (drop a k)) (i - (a + b)) 0 ∙ get_or-drop b (drop a k) (i - (a + b)) 0
      ∙ get_or-drop a k (b + (i - (a + b))) 0 ∙ ap (λ (x : ℕ). get_or k x 0) f

  put_length : length put ≡ length k
  unfolding put
  put_length = length-append (take a k) (y ++ drop b (drop a k))
      ∙ omega (arith, front, long, length-append y (drop b (drop a k)), length-drop b (drop a k), length-drop a k)

-- rows of b bytes with row s replaced by y
abbrev pub row_put : ℕ → List ℕ → ℕ → List ℕ → List ℕ
row_put b k s y = take (s * b) k ++ (y ++ drop b (drop (s * b) k))

-- a row that was lent comes back, as long as it was
module _ (w s b : ℕ) (k y : List ℕ) (e : b ≡ bytes_for w) where
  pub row_back : take (s * b) k ++ (y ++ drop (s * b + b - s * b) (drop (s * b) k)) ≡ row_put (bytes_for w) k s y
  row_back = let f : s * b + b - s * b ≡ b = omega arith in rw (f, e)

  pub row_back_length : (n : ℕ) → n * bytes_for w ≤ length k → s < n
      → length y ≡ length (take (s * b + b - s * b) (drop (s * b) k)) → length y ≡ bytes_for w
  row_back_length n room h long = long ∙ ap length (part_between w s b k e) ∙ part_length n (bytes_for w) k s room h

module _ (n b : ℕ) (k : List ℕ) (s : ℕ) (y : List ℕ) (room : n * b ≤ length k) (h : s < n) (long : length y ≡ b) where
  fits : s * b + b ≤ length k
  fits = omega (arith, row_end n b s h)

  pub row_put_length : length (row_put b k s y) ≡ length k
  unfolding put
  row_put_length = put_length (s * b) b k y fits long

  pub row_put_outside : (i : ℕ) → (i < s * b) ⊎ (s * b + b ≤ i) → get_or (row_put b k s y) i 0 ≡ get_or k i 0
  unfolding put
  row_put_outside i = ⊎_elim (put_before (s * b) b k y fits long i) (put_after (s * b) b k y fits long i)

  pub row_put_here : part b s (row_put b k s y) ≡ y
  unfolding put
  row_put_here = ext_get_or 0 (part b s (row_put b k s y)) y (size ∙ sym long)
      (λ i l. let m : i < b = omega (arith, size) in part_at b (row_put b k s y) s i m ∙ put_in (s * b) b k y fits long i m)
    where
      size : length (part b s (row_put b k s y)) ≡ b
      size = part_length n b (row_put b k s y) s (omega (arith, row_put_length)) h

  pub row_put_else : (i : ℕ) → i < n → i ≢ s → part b i (row_put b k s y) ≡ part b i k
  row_put_else i l e = ext_get_or 0 (part b i (row_put b k s y)) (part b i k) (size ∙ sym (part_length n b k i room l))
      (λ j m. let q : j < b = omega (arith, size) in
      part_at b (row_put b k s y) i j q ∙ row_put_outside (i * b + j) (outside j q) ∙ sym (part_at b k i j q))
    where
      size : length (part b i (row_put b k s y)) ≡ b
      size = part_length n b (row_put b k s y) i (omega (arith, row_put_length)) l

      above : s ≤ i → s + 1 ≤ i
      above a = ⊎_elim (λ z. absurd (e (omega arith))) (λ z. z) (less i (s + 1))

      outside : (j : ℕ) → j < b → (i * b + j < s * b) ⊎ (s * b + b ≤ i * b + j)
      outside j m = ⊎_elim (λ a. inl (digits_lt a m))
          (λ a. inr (omega (arith, mul-le-mul_right b (above a), add-mul s 1 b))) (less i s)

  -- what is so of each row before s, and of the new row
  pub row_put_more : (P : ℕ → List ℕ → Type 0) → ((i : ℕ) → i < s → P i (part b i k)) → P s y → (i : ℕ) → i < s + 1
      → P i (part b i (row_put b k s y))
  row_put_more P old new i l = elim (ℕ_discrete i s) [
    | yes e ↦ rw (e, row_put_here) new
    | no e ↦ rw (row_put_else i (omega (arith, below e)) e) (old i (below e))
  ]
    where
      below : i ≢ s → i < s
      below e = ⊎_elim (λ a. a) (λ a. absurd (e (omega arith))) (less i s)

-- a raster with row s replaced
module _ {n w : ℕ} {X : List Bool} {d k : List ℕ} (R : Raster n w X d k) (s : ℕ) (h : s < n) (Z : List Bool)
    (y : List ℕ) (lz : length Z ≡ n * w) (here : Packed w (row w Z s) y y) (ly : length y ≡ bytes_for w)
    (other : (i : ℕ) → i < n → i ≢ s → row w Z i ≡ row w X i) where
  room : n * bytes_for w ≤ length k
  room = omega (arith, R.sized, R.room)

  pub raster_put : Raster n w Z d (row_put (bytes_for w) k s y)
  raster_put = record {
    long = lz;
    room = R.room;
    sized = row_put_length n (bytes_for w) k s y room h ly ∙ R.sized;
    rows = λ i l. elim (ℕ_discrete i s) [
      | yes e ↦ rw (e, row_put_here n (bytes_for w) k s y room h ly) here
      | no e ↦ rw (row_put_else n (bytes_for w) k s y room h ly i l e, other i l e) (R.rows i l)
    ];
    past = λ i l. row_put_outside n (bytes_for w) k s y room h ly i
        (inr (omega (arith, row_end n (bytes_for w) s h))) ∙ R.past i l;
  }

-- entry i of row s set, in a list of rows of b entries: that row
row_set : {A : Type 0} (b : ℕ) (k : List A) (s i : ℕ) (v : A) → i < b
    → take b (drop (s * b) (set k (s * b + i) v)) ≡ set (take b (drop (s * b) k)) i v
row_set b k s i v h = rw (drop-set-add, take-set-lt) refl

-- and every other row
row_kept : {A : Type 0} (b : ℕ) (k : List A) (s i j : ℕ) (v : A) → i < b → j ≢ s
    → take b (drop (j * b) (set k (s * b + i) v)) ≡ take b (drop (j * b) k)
row_kept b k s i j v h e = ⊎_elim before (λ l. ap (take b) (drop-set-lt (j * b) k (s * b + i) v (after l))) (less j s)
  where
    before : j < s → take b (drop (j * b) (set k (s * b + i) v)) ≡ take b (drop (j * b) k)
    before l =
        let m = s * b + i - j * b in
        let far : b ≤ m = omega (arith, row_end s b j l) in
        let q : s * b + i ≡ j * b + m = omega (arith, row_end s b j l) in
        rw (q, drop-set-add) (take-set-le b (drop (j * b) k) m v far)

    after : s ≤ j → s * b + i < j * b
    after l = digits_lt (⊎_elim (λ a. a) (λ a. absurd (e (omega arith))) (less s j)) h

module _ {n w : ℕ} {X : List Bool} {d k : List ℕ} (R : Raster n w X d k) (s t : ℕ) (hs : s < n) (ht : t < w) where
  -- a pair is set in the raster exactly if it is an entry of the table
  pub raster_bit : set_at w k s t ≡ at X (s * w + t)
  raster_bit = packed_bit (R.rows s hs) t ht ∙ row_at w X s t ht

  -- a pair taken out
  pub raster_without : at X (s * w + t) ≡ true → Raster n w (set X (s * w + t) false) d (without w k s t)
  unfolding without
  raster_without was = record {
    long = length-set X (s * w + t) false ∙ R.long;
    room = R.room;
    sized = length-set k (s * bytes_for w + t / 8) new ∙ R.sized;
    rows = λ i l. elim (ℕ_discrete i s) [ yes e ↦ rw e here | no e ↦ there i l e ];
    past = λ i l. get_or-set_other k (s * bytes_for w + t / 8) i new 0 (λ e. omega (arith, row_end n (bytes_for w) s hs))
        ∙ R.past i l;
  }
    where
      inside : t / 8 < bytes_for w
      inside = omega arith

      new : ℕ
      new = get_or k (s * bytes_for w + t / 8) 0 - 2 ^ (7 - t % 8)

      here : Packed w (row w (set X (s * w + t) false) s) (part (bytes_for w) s (set k (s * bytes_for w + t / 8) new))
          (part (bytes_for w) s (set k (s * bytes_for w + t / 8) new))
      here = rw (
        row_set w X s t false ht,
        row_set (bytes_for w) k s (t / 8) new inside,
        ← part_at (bytes_for w) k s (t / 8) inside,
      ) (packed_self (packed_clear (R.rows s hs) t ht (row_at w X s t ht ∙ was)))

      there : (i : ℕ) → i < n → i ≢ s → Packed w (row w (set X (s * w + t) false) i)
          (part (bytes_for w) i (set k (s * bytes_for w + t / 8) new)) (part (bytes_for w) i (set k
          (s * bytes_for w + t / 8) new))
      there i l e = rw (row_kept w X s t i false ht e, row_kept (bytes_for w) k s (t / 8) i new inside e) (R.rows i l)
