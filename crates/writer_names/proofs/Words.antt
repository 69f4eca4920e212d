-- Bytes compared with a name that is made, from the last one on.
use mathlib.Core.Path.{◌≡◌, refl, sym, ap, subst, ◌∙◌}
use mathlib.Core.Logic.{⊎_elim}
use mathlib.Core.Bool.{Bool, true, false, cond}
use mathlib.Core.List.{List, [], ◌∷◌, ◌++◌, append_assoc}
use Prim.Native.Nat.{ℕ, zero, suc, ◌+◌, ◌-◌, ◌/◌, ◌%◌, ◌≤◌, ◌<◌}
use Prim.Native.Char.{code}
use native.Mathlib.Omega.{arith}
use lib.Dec.{T, eqb, eqb-suc-zero, eqb-suc-suc}
use lib.ListN.{length, get_or, drop, replicate, length-append, length-drop, length-replicate, replicate-append-replicate}
use lib.Seq.{take-suc, get_or-drop, append_snoc, length-take-le}
use borrow.Author.Tests.{ne_eqb}
use Rattle.bitmaps.specs.BitLaws.{less}
use Rattle.byte_slices.specs.Decimal.{digit, decimal}
use Rattle.byte_slices.specs.DecimalLaws.{decimal_one, decimal_more}
use Rattle.reader_tokens.specs.Scan.{agree, same}
use Rattle.writer_tokens.specs.Tokens.{underscore, called_by}
use Rattle.writer_names.specs.Names.{part, is_word, is_last}

-- bytes of another number are another name
word_length : (x w : List ℕ) → (length x ≡ length w → ⊥) → is_word x w ≡ false
unfolding is_word same
word_length x w h = rw (ne_eqb (length x) (length w) h)

-- two tests in either order
swapped : (m n r : Bool) → cond m (cond n r false) false ≡ cond n (cond m r false) false
swapped true true r = refl
swapped true false r = refl
swapped false true r = refl
swapped false false r = refl

-- a first byte each
word_first : (a b : ℕ) (x w : List ℕ) → is_word (a ∷ x) (b ∷ w) ≡ cond (eqb a b) (is_word x w) false
unfolding is_word same agree
word_first a b x w =
    ap (λ (t : Bool). cond t (cond (eqb a b) (agree (length x) x w) false) false)
    (eqb-suc-suc (length x) (length w)) ∙ swapped (eqb (length x) (length w)) (eqb a b) (agree (length x) x w)

none_some : (b : ℕ) (w : List ℕ) → is_word [] (b ∷ w) ≡ false
none_some b w = word_length [] (b ∷ w) (λ e. absurd (omega (arith, e)))

some_none : (a : ℕ) (x : List ℕ) → is_word (a ∷ x) [] ≡ false
some_none a x = word_length (a ∷ x) [] (λ e. absurd (omega (arith, e)))

both_false : (t : Bool) → cond t false false ≡ false
both_false true = refl
both_false false = refl

-- a last byte each
word_last :
    (x w : List ℕ) (a b : ℕ) → is_word (x ++ (a ∷ [])) (w ++ (b ∷ [])) ≡ cond (eqb a b) (is_word x w) false
word_last [] [] a b = word_first a b [] []
word_last [] (d ∷ w) a b =
    word_first a d [] (w ++ (b ∷ []))
    ∙ ap (λ (t : Bool). cond (eqb a d) t false)
    (word_length [] (w ++ (b ∷ [])) (λ e. absurd (omega (arith, e, length-append w (b ∷ [])))))
    ∙ both_false (eqb a d)
    ∙ sym (ap (λ (t : Bool). cond (eqb a b) t false) (none_some d w) ∙ both_false (eqb a b))
word_last (c ∷ x) [] a b =
    word_first c b (x ++ (a ∷ [])) []
    ∙ ap (λ (t : Bool). cond (eqb c b) t false)
    (word_length (x ++ (a ∷ [])) [] (λ e. absurd (omega (arith, e, length-append x (a ∷ [])))))
    ∙ both_false (eqb c b)
    ∙ sym (ap (λ (t : Bool). cond (eqb a b) t false) (some_none c x) ∙ both_false (eqb a b))
word_last (c ∷ x) (d ∷ w) a b =
    word_first c d (x ++ (a ∷ [])) (w ++ (b ∷ []))
    ∙ ap (λ (t : Bool). cond (eqb c d) t false) (word_last x w a b)
    ∙ swapped (eqb c d) (eqb a b) (is_word x w)
    ∙ sym (ap (λ (t : Bool). cond (eqb a b) t false) (word_first c d x w))

module _ (s : List ℕ) (place : ℕ) where
  -- one byte more of a text
  part_more : (n : ℕ) → place + suc n ≤ length s → part s place (suc n) ≡ part s place n ++ (get_or s (place + n) 0 ∷ [])
  part_more n h =
      take-suc (drop place s) n 0 (omega (arith, length-drop place s))
      ∙ ap (λ (b : ℕ). part s place n ++ (b ∷ [])) (get_or-drop place s n 0)

  part_length : (n : ℕ) → place + n ≤ length s → length (part s place n) ≡ n
  part_length n h = length-take-le n (drop place s) (omega (arith, length-drop place s))

  module _ (w : List ℕ) (b : ℕ) where
    -- the last byte is not b
    pub last_no :
        (len : ℕ) → place + len ≤ length s → is_last s place len b ≡ false
        → is_word (part s place len) (w ++ (b ∷ [])) ≡ false
    unfolding is_last
    last_no zero h e =
        word_length (part s place 0) (w ++ (b ∷ []))
        (λ q. absurd (omega (arith, q, part_length 0 h, length-append w (b ∷ []))))
    last_no (suc n) h e =
        ap (λ (x : List ℕ). is_word x (w ++ (b ∷ []))) (part_more n h)
        ∙ word_last (part s place n) w (get_or s (place + n) 0) b
        ∙ ap (λ (t : Bool). cond t (is_word (part s place n) w) false) (other e)
      where
        other : cond (eqb (suc n) 0) false (eqb (get_or s (place + (suc n - 1)) 0) b) ≡ false
            → eqb (get_or s (place + n) 0) b ≡ false
        other q = let m : suc n - 1 ≡ n = omega arith in rw (eqb-suc-zero n, m) at q

    -- the last byte is b: those before it decide
    pub last_yes :
        (len : ℕ) → place + len ≤ length s → is_last s place len b ≡ true
        → is_word (part s place len) (w ++ (b ∷ [])) ≡ is_word (part s place (len - 1)) w
    unfolding is_last
    last_yes zero h e = absurd (subst T (sym e) tt)
    last_yes (suc n) h e =
        let m : suc n - 1 ≡ n = omega arith in
        ap (λ (x : List ℕ). is_word x (w ++ (b ∷ []))) (part_more n h)
        ∙ word_last (part s place n) w (get_or s (place + n) 0) b
        ∙ ap (λ (t : Bool). cond t (is_word (part s place n) w) false) (equal e)
        ∙ ap (λ (k : ℕ). is_word (part s place k) w) (sym m)
      where
        equal : cond (eqb (suc n) 0) false (eqb (get_or s (place + (suc n - 1)) 0) b) ≡ true
            → eqb (get_or s (place + n) 0) b ≡ true
        equal q = let m : suc n - 1 ≡ n = omega arith in rw (eqb-suc-zero n, m) at q

  -- what has a last byte is not empty
  pub last_some : (len b : ℕ) → is_last s place len b ≡ true → 0 < len
  unfolding is_last
  last_some zero b e = absurd (subst T (sym e) tt)
  last_some (suc n) b e = omega arith

abbrev pub last_digit : ℕ → ℕ
last_digit i = code "0" + i % 10

-- a name that is made ends in a digit, behind the letter or behind the name with a tenth of the number
module _ (letter u i : ℕ) where
  called_one : i < 10 → called_by letter u i ≡ (replicate u underscore ++ (letter ∷ [])) ++ (last_digit i ∷ [])
  unfolding digit
  called_one h =
      let e : i % 10 ≡ i = omega arith in
      rw (e, decimal_one i h) (sym (append_snoc (replicate u underscore) letter ((code "0" + i) ∷ [])))

  called_more : 10 ≤ i → called_by letter u i ≡ called_by letter u (i / 10) ++ (last_digit i ∷ [])
  unfolding digit
  called_more h =
      rw (decimal_more i h)
      (sym (append_assoc (replicate u underscore) (letter ∷ decimal (i / 10)) (last_digit i ∷ [])))

  module _ (s : List ℕ) (place len : ℕ) (h : place + len ≤ length s) where
    pub digit_no :
        is_last s place len (last_digit i) ≡ false → is_word (part s place len) (called_by letter u i) ≡ false
    digit_no e =
        ⊎_elim (λ l. behind (replicate u underscore ++ (letter ∷ [])) (called_one l))
        (λ l. behind (called_by letter u (i / 10)) (called_more l))
        (less i 10)
      where
        behind : (w : List ℕ) → called_by letter u i ≡ w ++ (last_digit i ∷ [])
            → is_word (part s place len) (called_by letter u i) ≡ false
        behind w q = ap (is_word (part s place len)) q ∙ last_no s place w (last_digit i) len h e

    pub digit_one :
        i < 10 → is_last s place len (last_digit i) ≡ true
        → is_word (part s place len) (called_by letter u i)
        ≡ is_word (part s place (len - 1)) (replicate u underscore ++ (letter ∷ []))
    digit_one l e = ap (is_word (part s place len)) (called_one l) ∙ last_yes s place _ (last_digit i) len h e

    pub digit_more :
        10 ≤ i → is_last s place len (last_digit i) ≡ true
        → is_word (part s place len) (called_by letter u i)
        ≡ is_word (part s place (len - 1)) (called_by letter u (i / 10))
    digit_more l e = ap (is_word (part s place len)) (called_more l) ∙ last_yes s place _ (last_digit i) len h e

-- so many underscores, from the last one on
module _ (s : List ℕ) (place n : ℕ) where
  pub other_length :
      (u : ℕ) → place + n ≤ length s → (n ≡ u → ⊥) → is_word (part s place n) (replicate u underscore) ≡ false
  other_length u h l =
      word_length (part s place n) (replicate u underscore)
      (λ e. l (sym (part_length s place n h) ∙ e ∙ length-replicate u underscore))

  one_less : 0 < n → replicate n underscore ≡ replicate (n - 1) underscore ++ (underscore ∷ [])
  one_less l =
      let e : n - 1 + 1 ≡ n = omega arith in
      sym (replicate-append-replicate (n - 1) 1 underscore ∙ ap (λ (k : ℕ). replicate k underscore) e)

  pub underscore_no :
      place + n ≤ length s → 0 < n → is_last s place n underscore ≡ false
      → is_word (part s place n) (replicate n underscore) ≡ false
  underscore_no h l e =
      ap (is_word (part s place n)) (one_less l) ∙ last_no s place (replicate (n - 1) underscore) underscore n h e

  pub underscore_yes :
      place + n ≤ length s → 0 < n → is_last s place n underscore ≡ true
      → is_word (part s place n) (replicate n underscore)
      ≡ is_word (part s place (n - 1)) (replicate (n - 1) underscore)
  underscore_yes h l e =
      ap (is_word (part s place n)) (one_less l) ∙ last_yes s place (replicate (n - 1) underscore) underscore n h e

  pub underscore_none : n ≡ 0 → is_word (part s place n) (replicate n underscore) ≡ true
  unfolding is_word same agree
  underscore_none e = rw e
