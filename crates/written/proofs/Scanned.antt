-- What bytes are a token of which kind: words and names, numerals, and marks.
use Rattle.std.specs.Prelude.{◌≡◌, refl, Bool, true, false, List, [], ◌∷◌, ◌++◌, length, drop, get_or}
use Rattle.std.proofs.Common.{sym, ap, ◌∙◌, length-drop, get_or-drop}
use Prim.Native.Nat.{ℕ, suc, ◌+◌, ◌-◌, ◌<◌}
use native.Mathlib.Omega.{arith}
use borrow.Author.Tests.{lt-ltb}
use Rattle.reader_tokens.specs.Scan.{is_space, is_letter, is_digit, is_part, run, past, agree, same}
use Rattle.reader_tokens.specs.Kinds as kinds
use Rattle.reader_tokens.specs.Tokens.{word_from, word_kind, words, mark_kind, mark_length, mark_at, word_at, token_from}
use Rattle.written.proofs.Tokens.{Gap, space, last, Fine}

-- the bytes at p
module _ (s : List ℕ) (p a : ℕ) (r : List ℕ) (e : drop p s ≡ a ∷ r) where
  within : p < length s
  within = omega (arith, sym (length-drop p s) ∙ ap length e)

  byte_at : (i : ℕ) → get_or s (p + i) 0 ≡ get_or (a ∷ r) i 0
  byte_at i = sym (get_or-drop p s i 0) ∙ ap (λ (l : List ℕ). get_or l i 0) e

  first_byte : get_or s p 0 ≡ a
  first_byte = let z : p + 0 ≡ p = omega arith in rw z at (byte_at 0)

-- the kinds of bytes do not overlap where it matters
gap_part : (b : ℕ) → Gap b → is_part b ≡ false
unfolding is_part is_letter is_digit
gap_part _ space = refl
gap_part _ last = refl

pub gap_digit : (b : ℕ) → Gap b → is_digit b ≡ false
unfolding is_digit
gap_digit _ space = refl
gap_digit _ last = refl

-- bytes that all pass a test, before one that does not
pub run_stops_at : (p : ℕ → Bool) (w : List ℕ) (b : ℕ) (r : List ℕ) → run p w ≡ length w → p b ≡ false
    → run p (w ++ (b ∷ r)) ≡ length w
unfolding run
run_stops_at p [] b r h e = rw e
run_stops_at p (a ∷ w) b r h e = by (λ l. run_stops_at p w b r l e) (p a) refl
  where
    by : (run p w ≡ length w → run p (w ++ (b ∷ r)) ≡ length w) → (t : Bool) → p a ≡ t
        → run p ((a ∷ w) ++ (b ∷ r)) ≡ suc (length w)
    by again true q =
        let k : suc (run p w) ≡ suc (length w) = rw q at h in
        rw (q, again (omega arith))
    by again false q = let k : ◌≡◌ {A = ℕ} 0 (suc (length w)) = rw q at h in absurd (omega arith)

agree_front : (w r y : List ℕ) → agree (length w) (w ++ r) y ≡ agree (length w) w y
unfolding agree
agree_front [] r y = refl
agree_front (a ∷ w) r [] = refl
agree_front (a ∷ w) r (b ∷ y) = rw (agree_front w r y)

pub word_front : (k : ℕ) (ws : List (List ℕ)) (w r : List ℕ)
    → word_from k ws (length w) (w ++ r) ≡ word_from k ws (length w) w
unfolding word_from same
word_front k [] w r = refl
word_front k (y ∷ ws) w r = rw (agree_front w r y, word_front (suc k) ws w r)

-- a word or a name
module _ (a : ℕ) (v : List ℕ) (k : ℕ) (letter : is_letter a ≡ true) (parts : run is_part (a ∷ v) ≡ length (a ∷ v))
    (kind : word_kind (length (a ∷ v)) (a ∷ v) ≡ k) (visible : is_space a ≡ false) where
  pub word_fine : Fine (a ∷ v) k
  unfolding token_from word_at past word_kind run
  word_fine = record {
    starts = λ r. rw visible;
    scans = λ s p b r g e.
        let z : (p + suc (length v)) - p ≡ suc (length v) = omega arith in
        rw (
          lt-ltb p (length s) (within s p a (v ++ (b ∷ r)) e),
          first_byte s p a (v ++ (b ∷ r)) e,
          letter,
          e,
          run_stops_at is_part (a ∷ v) b r parts (gap_part b g),
          z,
          word_front kinds.broadcast words (a ∷ v) (b ∷ r),
          kind,
        );
  }

-- a numeral
module _ (a : ℕ) (v : List ℕ) (letter : is_letter a ≡ false) (digit : is_digit a ≡ true)
    (digits : run is_digit (a ∷ v) ≡ length (a ∷ v)) (visible : is_space a ≡ false) where
  pub numeral_fine : Fine (a ∷ v) kinds.numeral
  unfolding token_from past run
  numeral_fine = record {
    starts = λ r. rw visible;
    scans = λ s p b r g e.
        rw (
          lt-ltb p (length s) (within s p a (v ++ (b ∷ r)) e),
          first_byte s p a (v ++ (b ∷ r)) e,
          letter,
          digit,
          e,
          run_stops_at is_digit (a ∷ v) b r digits (gap_digit b g),
        );
  }

-- marks of one byte and of two
module _ (a : ℕ) (letter : is_letter a ≡ false) (digit : is_digit a ≡ false) (visible : is_space a ≡ false) where
  pub single_mark_fine : ((b : ℕ) → Gap b → mark_kind a b ≡ a) → mark_length a ≡ 1 → Fine (a ∷ []) a
  unfolding token_from mark_at run
  single_mark_fine kind size = record {
    starts = λ r. rw visible;
    scans = λ s p b r g e.
        rw (
          lt-ltb p (length s) (within s p a (b ∷ r) e),
          first_byte s p a (b ∷ r) e,
          letter,
          digit,
          byte_at s p a (b ∷ r) e 1,
          kind b g,
          size,
        );
  }

  pub pair_mark_fine : (b : ℕ) → mark_length (mark_kind a b) ≡ 2 → Fine (a ∷ b ∷ []) (mark_kind a b)
  unfolding token_from mark_at run
  pair_mark_fine c size = record {
    starts = λ r. rw visible;
    scans = λ s p b r g e.
        rw (
          lt-ltb p (length s) (within s p a (c ∷ b ∷ r) e),
          first_byte s p a (c ∷ b ∷ r) e,
          letter,
          digit,
          byte_at s p a (c ∷ b ∷ r) e 1,
          size,
        );
  }
