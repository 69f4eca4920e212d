-- The names that are written: they are names and differ.
use Rattle.std.specs.Prelude.{◌≡◌, Bool, true, false, List, [], ◌∷◌, eqb, leb, length, drop, get_or, replicate}
use Rattle.std.proofs.Math.Path.{refl, sym, ap}
use Rattle.std.proofs.Common.{◌∙◌, arith, eqb-true, ne_eqb, leb-true}
use Prim.Native.Nat.{ℕ, zero, suc, ◌+◌, ◌≤◌, ◌<◌}
use Prim.Native.Char.{Char, code}
use Rattle.std.proofs.Math.ListN.{length-append}
use Rattle.std.proofs.lemmas.List.{length-replicate}
use Rattle.std.proofs.Math.Seq.{drop_at}
use Rattle.reader_tokens.specs.Kinds as kinds
use Rattle.reader_tokens.specs.Scan.{is_space, is_letter, is_digit, is_part, run, same}
use Rattle.reader_tokens.specs.Tokens.{words, word_from, word_kind}
use Rattle.reader_formed.proofs.Cases.{never}
use Rattle.limits.specs.Limits.{channel_limit}
use Rattle.byte_slices.specs.Decimal.{decimal}
use Rattle.byte_slices.specs.DecimalLaws.{decimal_within}
use Rattle.written.specs.Written.{called}
use Rattle.written.proofs.Good.{IsName}
use Rattle.written.proofs.Tokens.{Fine}
use Rattle.written.proofs.Scanned.{word_fine}
use Rattle.written.proofs.Numbers.{DecimalBytes, decimal_is, decimal_differs, decimal_some, digit_letter, digits_first}
use Rattle.written.proofs.Slots.{same_equal}

letter_large : (b : ℕ) → is_letter b ≡ true → 65 ≤ b
unfolding is_letter
letter_large b e = by (eqb b 95) refl (leb 65 b) refl (leb 97 b) refl
  where
    by : (x : Bool) → eqb b 95 ≡ x → (y : Bool) → leb 65 b ≡ y → (z : Bool) → leb 97 b ≡ z → 65 ≤ b
    by true p y q z r = omega (arith, eqb-true b 95 p)
    by false p true q z r = leb-true 65 b q
    by false p false q true r = omega (arith, leb-true 97 b r)
    by false p false q false r = never (sym (rw (p, q, r) at e))

letter_visible : (b : ℕ) → is_letter b ≡ true → is_space b ≡ false
unfolding is_space
letter_visible b e =
    let l : 65 ≤ b = letter_large b e in
    let no : (n : ℕ) → n < 65 → eqb b n ≡ false = λ n h. ne_eqb b n (λ (q : b ≡ n). omega arith) in
    rw (no 32 (omega arith), no 9 (omega arith), no 13 (omega arith), no 10 (omega arith))

pub name_some : (w : List ℕ) → IsName w → 0 < length w
unfolding is_letter
name_some [] n = never (sym n.letter)
name_some (a ∷ w) n = omega arith

pub name_fine : (w : List ℕ) → IsName w → Fine w kinds.name
unfolding is_letter
name_fine [] n = never (sym n.letter)
name_fine (a ∷ w) n = word_fine a w kinds.name n.letter n.parts n.no_word (letter_visible a n.letter)

-- bytes that are not all letters are no word
lettered : List (List ℕ) → Type 0
lettered [] = Unit {0}
lettered (y ∷ ys) = (run is_letter y ≡ length y) × lettered ys

words_lettered : lettered words
unfolding lettered words is_letter run
words_lettered = (refl, (refl, (refl, (refl, (refl, (refl, (refl, (refl, (refl, (refl, (refl, tt)))))))))))

not_word : (k : ℕ) (ys : List (List ℕ)) (w : List ℕ) → lettered ys → run is_letter w < length w
    → word_from k ys (length w) w ≡ kinds.name
unfolding lettered word_from
not_word k [] w l h = refl
not_word k (y ∷ ys) w l h = by (not_word (suc k) ys w l.1 h) (same (length w) w (length y) y) refl
  where
    by : word_from (suc k) ys (length w) w ≡ kinds.name → (b : Bool) → same (length w) w (length y) y ≡ b
        → word_from k (y ∷ ys) (length w) w ≡ kinds.name
    by again false q = rw (q, again)
    by again true q =
        let m : run is_letter y < length y = rw (same_equal w y q) at h in
        absurd (omega (arith, l.0))

-- digits are parts of names
digit_parts : (w : List ℕ) → run is_digit w ≡ length w → run is_part w ≡ length w
unfolding run is_part
digit_parts [] h = refl
digit_parts (a ∷ w) h =
    let m : (is_digit a ≡ true) × (run is_digit w ≡ length w) = digits_first a w h in
    rw ((digit_letter a m.0).0, m.0, digit_parts w m.1)

module _ (letter : Char) (is : is_letter (code letter) ≡ true) where
  called_parts : (u i : ℕ) → run is_part (called letter u i) ≡ length (called letter u i)
  unfolding called run is_part is_letter
  called_parts zero i = rw (is, digit_parts (decimal i) (decimal_is i).all)
  called_parts (suc u) i = rw (called_parts u i)

  called_length : (u i : ℕ) → length (called letter u i) ≡ suc u + length (decimal i)
  unfolding called
  called_length u i =
      length-append (replicate u (code "_")) (code letter ∷ decimal i)
      ∙ rw (length-replicate u (code "_")) (omega arith)

  called_letters : (u i : ℕ) → run is_letter (called letter u i) ≡ suc u
  unfolding called run is_letter
  called_letters zero i =
      let d : DecimalBytes (decimal i) = decimal_is i in
      rw (is, d.is, (digit_letter d.head d.digit).0)
  called_letters (suc u) i = rw (called_letters u i)

  called_first : (u i : ℕ) → is_letter (get_or (called letter u i) 0 0) ≡ true
  unfolding called is_letter
  called_first zero i = is
  called_first (suc u) i = refl

  pub called_name : (u i : ℕ) → u ≤ channel_limit → i < 100 → IsName (called letter u i)
  unfolding word_kind
  called_name u i h l = record {
    letter = called_first u i;
    parts = called_parts u i;
    no_word = not_word kinds.broadcast words (called letter u i) words_lettered
        (omega (arith, called_length u i, called_letters u i, decimal_some i));
    few = omega (arith, called_length u i, decimal_within 1 i (omega arith));
  }

-- the letter and the number are those of the name
module _ (x y : Char) (u i j : ℕ) (e : called x u i ≡ called y u j) where
  called_rest : code x ∷ decimal i ≡ code y ∷ decimal j
  unfolding called
  called_rest =
      sym (drop_at (replicate u (code "_")) (code x ∷ decimal i) u (length-replicate u (code "_"))) ∙ ap (drop u) e
      ∙ drop_at (replicate u (code "_")) (code y ∷ decimal j) u (length-replicate u (code "_"))

  pub called_letter : code x ≡ code y
  called_letter = ap (λ (l : List ℕ). get_or l 0 0) called_rest

  pub called_number : i ≡ j
  called_number = decimal_differs i j (ap (drop 1) called_rest)
