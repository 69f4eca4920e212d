-- Laws of `member`, and of the words that stand in one row.
use mathlib.Core.Path.{◌≡◌, refl, sym, ap}
use mathlib.Core.Bool.{Bool, true, false}
use mathlib.Core.List.{List, [], ◌∷◌, ◌++◌, map, flatten}
use Prim.Native.Nat.{ℕ, zero, suc, ◌+◌, ◌≤◌, ◌<◌}
use native.Mathlib.Numerals.{add-one}
use native.Mathlib.Omega.{arith}
use lib.Dec.{eqb}
use lib.ListN.{length, get_or, drop, length-append, length-drop, drop_of_length-le, get_or-map, length-map}
use lib.Seq.{drop-cons, drop-drop, drop-append_seam}
use borrow.Author.Tests.{eq-eqb, ne_eqb, eqb-true}
use Rattle.reader_tokens.specs.Scan.{agree, same, member}
use Rattle.reader_tokens.specs.Kinds.{name}
use Rattle.reader_tokens.specs.Tokens.{words, word_from, word_kind}

module _ (b : ℕ) (s : List ℕ) (i : ℕ) where
  pub member_yes : i < length s → b ≡ get_or s i 0 → member b (drop i s) ≡ true
  member_yes h e = rw (drop-cons s i 0, eq-eqb b (get_or s i 0) e)

  pub member_no : i < length s → (b ≡ get_or s i 0 → ⊥) → member b (drop i s) ≡ member b (drop (i + 1) s)
  member_no h e = rw (drop-cons s i 0, ne_eqb b (get_or s i 0) e, add-one i)

  pub member_end : length s ≤ i → member b (drop i s) ≡ false
  member_end h = rw (drop_of_length-le s h)

-- what stands after a word does not matter to whether it is the same
agree_front : (w r x : List ℕ) → agree (length w) x (w ++ r) ≡ agree (length w) x w
unfolding agree
agree_front [] r x = refl
agree_front (a ∷ w) r [] = refl
agree_front (a ∷ w) r (b ∷ x) = rw (agree_front w r x)

same_front : (n : ℕ) (x w r : List ℕ) → same n x (length w) (w ++ r) ≡ same n x (length w) w
unfolding same
same_front n x w r = by (eqb n (length w)) refl
  where
    by : (t : Bool) → eqb n (length w) ≡ t → same n x (length w) (w ++ r) ≡ same n x (length w) w
    by true e = rw (eqb-true n (length w) e, agree_front w r x)
    by false e = rw e

-- the words are as long as `lengths` says, and from word i on they stand in the row from `at` on
module _ (ws : List (List ℕ)) (lengths : List ℕ) (q : lengths ≡ map length ws) (i : ℕ) where
  pub word_end : length lengths ≤ i → (k n : ℕ) (x : List ℕ) → word_from k (drop i ws) n x ≡ name
  unfolding word_from
  word_end h k n x =
      let l : length ws ≤ i = omega (arith, ap length q, length-map ws length) in
      rw (drop_of_length-le ws l)

  module _ (row : List ℕ) (at : ℕ) (h : i < length lengths) (e : drop at row ≡ flatten (drop i ws)) where
    inside : i < length ws
    inside = omega (arith, ap length q, length-map ws length)

    long : get_or lengths i 0 ≡ length (get_or ws i [])
    long = rw q (get_or-map length ws i [])

    split : drop at row ≡ get_or ws i [] ++ flatten (drop (i + 1) ws)
    unfolding flatten
    split = rw (e, drop-cons ws i [] inside, add-one i)

    here :
        (n : ℕ) (x : List ℕ)
        → same n x (get_or lengths i 0) (drop at row) ≡ same n x (length (get_or ws i [])) (get_or ws i [])
    here n x = rw (long, split) (same_front n x (get_or ws i []) (flatten (drop (i + 1) ws)))

    pub word_yes :
        (k n : ℕ) (x : List ℕ) → same n x (get_or lengths i 0) (drop at row) ≡ true → word_from k (drop i ws) n x ≡ k
    unfolding word_from
    word_yes k n x y = rw (drop-cons ws i [] inside, sym (here n x), y)

    pub word_no :
        (k n : ℕ) (x : List ℕ) → same n x (get_or lengths i 0) (drop at row) ≡ false
        → word_from (k + i) (drop i ws) n x ≡ word_from (k + (i + 1)) (drop (i + 1) ws) n x
    unfolding word_from
    word_no k n x y =
        let z : k + (i + 1) ≡ suc (k + i) = omega arith in
        rw (z, drop-cons ws i [] inside, sym (here n x), y, add-one i)

    pub row_room : at ≤ length row → at + get_or lengths i 0 ≤ length row
    row_room l =
        let w : List ℕ = get_or ws i [] in
        omega (arith, long, length-drop at row, ap length split, length-append w (flatten (drop (i + 1) ws)))

    pub row_next : drop (at + get_or lengths i 0) row ≡ flatten (drop (i + 1) ws)
    row_next =
        rw (sym (drop-drop (get_or lengths i 0) at row), split, long)
        (drop-append_seam (get_or ws i []) (flatten (drop (i + 1) ws)))

-- the length of `chan`, `init` and `sync`
abbrev pub shortest_word : ℕ
shortest_word = 4

-- fewer bytes than every word has are a name
pub short_is_name : (n : ℕ) → n < shortest_word → (x : List ℕ) → name ≡ word_kind n x
unfolding word_kind word_from words same
short_is_name zero h x = refl
short_is_name (suc zero) h x = refl
short_is_name (suc (suc zero)) h x = refl
short_is_name (suc (suc (suc zero))) h x = refl
short_is_name (suc (suc (suc (suc n)))) h x = absurd (omega arith)
