-- Laws of the header: its numbers digit by digit, its bytes one by one.
use mathlib.Core.Path.{◌≡◌, refl, sym, ap, ◌∙◌}
use mathlib.Core.Logic.{⊎_elim}
use mathlib.Core.Bool.{Bool, true, false, ◌&&◌}
use mathlib.Core.List.{List, [], ◌∷◌, ◌++◌}
use Prim.Native.Nat.{ℕ, zero, suc, ◌+◌, ◌-◌, ◌/◌, ◌%◌, ◌<◌, ◌≤◌}
use native.Mathlib.Numerals.{add-one}
use native.Mathlib.Omega.{arith}
use lib.Dec.{eqb}
use borrow.Author.Tests.{eq-eqb, ne_eqb}
use lib.ListN.{length, get_or, drop, length-append, length-drop, drop_of_length-le, get_or-append}
use lib.Seq.{drop-cons, get_or-append-add, get_or-drop}
use Rattle.bitmaps.specs.Bits.{written}
use Rattle.bitmaps.specs.BitLaws.{less, written_is}
use Rattle.byte_slices.specs.Decimal.{digit, digits, decimal}
use Rattle.tables_header.specs.Header.{magic_line, magic_bytes, space, line_end, header, header_bytes, begins}
use Rattle.limits.specs.Limits.{state_limit}
use Rattle.byte_slices.specs.DecimalLaws.{digits_one, digits_more, decimal_more, decimal_one, decimal_length, length_one}

-- a number has at most one digit more than its value
digits_few : (k n : ℕ) → length (digits k n) ≤ k
unfolding digits
digits_few zero n = omega arith
digits_few (suc k) n =
    ⊎_elim (λ a. omega (arith, ap length (digits_one k n a)))
    (λ a. omega (
      arith,
      ap length (digits_more k n a),
      length-append (digits k (n / 10)) (digit (n % 10) ∷ []),
      digits_few k (n / 10),
    ))
    (less n 10)

pub decimal_few : (n : ℕ) → length (decimal n) ≤ n + 1
unfolding decimal
decimal_few n = omega (arith, digits_few (suc n) n)

pub decimal_long : (n : ℕ) → 1 < length (decimal n) → 10 ≤ n
decimal_long n h = ⊎_elim (λ a. absurd (omega (arith, length_one n a))) (λ a. a) (less n 10)

-- the last digit, and the digits in front of it
pub decimal_last : (n i : ℕ) → length (decimal n) ≡ i + 1 → get_or (decimal n) i 0 ≡ digit (n % 10)
decimal_last n i h = ⊎_elim one more (less n 10)
  where
    one : n < 10 → get_or (decimal n) i 0 ≡ digit (n % 10)
    one a =
        let e : i ≡ 0 = omega (arith, length_one n a) in
        let f : n % 10 ≡ n = omega arith in
        rw (e, f, decimal_one n a)

    more : 10 ≤ n → get_or (decimal n) i 0 ≡ digit (n % 10)
    more a =
        let e : i ≡ length (decimal (n / 10)) + 0 = omega (arith, decimal_length n a) in
        ap (λ (x : List ℕ). get_or x i 0) (decimal_more n a)
        ∙ ap (λ (x : ℕ). get_or (decimal (n / 10) ++ (digit (n % 10) ∷ [])) x 0) e
        ∙ get_or-append-add (decimal (n / 10)) (digit (n % 10) ∷ []) 0 0

pub decimal_front : (n i : ℕ) → 10 ≤ n → i < length (decimal (n / 10)) → get_or (decimal n) i 0
    ≡ get_or (decimal (n / 10)) i 0
decimal_front n i a h = ap (λ (x : List ℕ). get_or x i 0) (decimal_more n a)
    ∙ get_or-append (decimal (n / 10)) (digit (n % 10) ∷ []) 0 i h

module _ (w h : ℕ) where
  -- the header's bytes: `P4` and LF, the digits of w, a space, the digits of h, LF
  pub header_size : header_bytes w h ≡ magic_bytes + length (decimal w) + 1 + length (decimal h) + 1
  unfolding header_bytes header
  header_size = simp length-append (omega arith)

  pub header_few : w ≤ state_limit → h ≤ state_limit → header_bytes w h ≤ magic_bytes + (state_limit + 1) + 1 +
      (state_limit + 1) + 1
  header_few a b = omega (arith, header_size, decimal_few w, decimal_few h)

  pub header_front : (i : ℕ) → i < magic_bytes → get_or (header w h) i 0 ≡ get_or (magic_line) i 0
  unfolding header
  header_front i l = get_or-append (magic_line) (decimal w ++ (space ++ (decimal h ++ line_end))) 0 i l

  header_past : (j : ℕ) → get_or (header w h) (magic_bytes + j) 0 ≡ get_or (decimal w ++ (space ++
      (decimal h ++ line_end))) j 0
  unfolding header
  header_past j = get_or-append-add (magic_line) (decimal w ++ (space ++ (decimal h ++ line_end))) j 0

  pub header_width : (i : ℕ) → magic_bytes ≤ i → i < magic_bytes + length (decimal w) → get_or (header w h) i 0 ≡ get_or
      (decimal w) (i - magic_bytes) 0
  header_width i k l =
      let e : i ≡ magic_bytes + (i - magic_bytes) = omega arith in
      ap (λ (x : ℕ). get_or (header w h) x 0) e
      ∙ header_past (i - magic_bytes)
      ∙ get_or-append (decimal w) (space ++ (decimal h ++ line_end)) 0 (i - magic_bytes) (omega arith)

  after_width : (j : ℕ) → get_or (header w h) (magic_bytes + (length (decimal w) + j)) 0
      ≡ get_or (space ++ (decimal h ++ line_end)) j 0
  after_width j = header_past (length (decimal w) + j)
      ∙ get_or-append-add (decimal w) (space ++ (decimal h ++ line_end)) j 0

  pub header_space : (i : ℕ) → i ≡ magic_bytes + length (decimal w) → get_or (header w h) i 0 ≡ get_or (space) 0 0
  header_space i k = let e : i ≡ magic_bytes + (length (decimal w) + 0) = omega arith in
      ap (λ (x : ℕ). get_or (header w h) x 0) e ∙ after_width 0

  after_space : (j : ℕ) → get_or (header w h) (magic_bytes + length (decimal w) + 1 + j) 0 ≡ get_or
      (decimal h ++ line_end) j 0
  after_space j =
      let e : magic_bytes + length (decimal w) + 1 + j ≡ magic_bytes + (length (decimal w) + (1 + j)) = omega arith in
      ap (λ (x : ℕ). get_or (header w h) x 0) e ∙ after_width (1 + j)
      ∙ get_or-append-add (space) (decimal h ++ line_end) j 0

  pub header_height : (i : ℕ) → magic_bytes + length (decimal w) + 1 ≤ i → i - (magic_bytes + length
      (decimal w) + 1) < length (decimal h)
      → get_or (header w h) i 0 ≡ get_or (decimal h) (i - (magic_bytes + length (decimal w) + 1)) 0
  header_height i k l =
      let e : i ≡ magic_bytes + length (decimal w) + 1 + (i - (magic_bytes + length (decimal w) + 1)) = omega arith in
      ap (λ (x : ℕ). get_or (header w h) x 0) e
      ∙ after_space (i - (magic_bytes + length (decimal w) + 1))
      ∙ get_or-append (decimal h) (line_end) 0 (i - (magic_bytes + length (decimal w) + 1)) l

  pub header_end : (i : ℕ) → i ≡ magic_bytes + length (decimal w) + 1 + length (decimal h) → get_or (header w h) i 0
      ≡ get_or (line_end) 0 0
  header_end i k =
      let e : i ≡ magic_bytes + length (decimal w) + 1 + (length (decimal h) + 0) = omega arith in
      ap (λ (x : ℕ). get_or (header w h) x 0) e ∙ after_space (length (decimal h) + 0)
      ∙ get_or-append-add (decimal h) (line_end) 0 0

-- a list written at the front of another
pub written_list : (p d : List ℕ) → length p ≤ length d → written (λ i. get_or p i 0) (length p) d ≡ p
    ++ drop (length p) d
written_list p d l =
    sym (written_is (λ i. get_or p i 0) (length p) (p ++ drop (length p) d) d l
    (length-append p (drop (length p) d) ∙ simp length-drop (omega arith))
    (λ i h. get_or-append p (drop (length p) d) 0 i h)
    (λ i h.
    let e : i ≡ length p + (i - length p) = omega arith in
    let f : length p + (i - length p) ≡ i = omega arith in
    ap (λ (x : ℕ). get_or (p ++ drop (length p) d) x 0) e
    ∙ get_or-append-add p (drop (length p) d) (i - length p) 0
    ∙ get_or-drop (length p) d (i - length p) 0
    ∙ ap (λ (x : ℕ). get_or d x 0) f))

and_false : (b : Bool) → (b && false) ≡ false
and_false true = refl
and_false false = refl

-- the test byte by byte
pub begins_here : (p t : List ℕ) (i : ℕ) → i < length p → i < length t → get_or t i 0 ≡ get_or p i 0
    → begins (drop i p) (drop i t) ≡ begins (drop (i + 1) p) (drop (i + 1) t)
unfolding begins
begins_here p t i h l e = rw (add-one, drop-cons p i 0 h, drop-cons t i 0 l, eq-eqb (get_or t i 0) (get_or p i 0) e)

pub begins_not : (p t : List ℕ) (i : ℕ) → i < length p → i < length t → (get_or t i 0 ≡ get_or p i 0 → ⊥)
    → begins (drop i p) (drop i t) ≡ false
unfolding begins
begins_not p t i h l e = rw (drop-cons p i 0 h, drop-cons t i 0 l, ne_eqb (get_or t i 0) (get_or p i 0) e)

pub begins_all : (p t : List ℕ) (i : ℕ) → length p ≤ i → begins (drop i p) (drop i t) ≡ true
unfolding begins
begins_all p t i h = rw (drop_of_length-le p h)

pub begins_short : (p t : List ℕ) → length t < length p → begins p t ≡ false
unfolding begins
begins_short [] t h = absurd (omega arith)
begins_short (b ∷ p) [] h = refl
begins_short (b ∷ p) (c ∷ t) h = rw (begins_short p t (omega arith)) (and_false (eqb c b))
