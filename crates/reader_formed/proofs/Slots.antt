-- The slots of the names while a text is read: those of each kind are
-- filled exactly below its count, and all names differ.
use Rattle.std.specs.Prelude.{◌≡◌, refl, Bool, true, false, List, [], ◌∷◌, ℕ, zero, suc, ◌+◌, ◌≤◌, ◌<◌, eqb, leb, ltb, length, set, drop}
use Rattle.std.proofs.Common.{sym, ◌∙◌, arith, leb-true, leb-false, ltb-true, ltb-false, eq-eqb, ne_eqb}
use Rattle.std.proofs.Math.ListN.{get_or-eq_default}
use Rattle.reader_parts.specs.Slots.{name_slots}
use Rattle.reader_tokens.specs.Scan.{agree, same}
use Rattle.reader_record.specs.declared.Name.{Name}
use Rattle.reader_record.specs.Record.{no_name}
use Rattle.reader_formed.specs.Promise.{Within, Unlike}
use Rattle.reader_formed.proofs.Cases.{when_equal, stored}
use Rattle.reader_parts.specs.declared.Use.{Use}
use Rattle.reader_formed.proofs.Declared.{slot, Used}

-- the names of one kind, of which there are `count` now and `limit` at most, in the slots from `first` on
pub record Kind (s : List ℕ) (names : List Name) (first limit count : ℕ) (named : ℕ → Name) : Type 0 where
  pub few : count ≤ limit
  pub filled : (i : ℕ) → i < count → slot names (first + i) ≡ named i
  pub empty : (i : ℕ) → count ≤ i → i < limit → (slot names (first + i)).len ≡ 0
  pub within : (i : ℕ) → i < count → Within s (named i)

-- a slot with a name is below the count
pub below_count :
    (s : List ℕ) (names : List Name) (first limit count : ℕ) (named : ℕ → Name)
    → Kind s names first limit count named → (i : ℕ) → i < limit → 0 < (slot names (first + i)).len → i < count
below_count s names first limit count named k i h l = by (leb count i) refl
  where
    by : (b : Bool) → leb count i ≡ b → i < count
    by true e = absurd (omega (arith, k.empty i (leb-true count i e) h))
    by false e = leb-false count i e

-- the names of a kind, whatever the text calls them
pub record Known (s : List ℕ) (names : List Name) (first limit count : ℕ) : Type 0 where
  pub size : length names ≡ name_slots
  pub named : ℕ → Name
  pub kind : Kind s names first limit count named

-- a name that is used is one of those declared
pub used_below :
    (s : List ℕ) (names : List Name) (first limit count : ℕ) {over : Bool} (u : Use) → Used names first limit over u
    → Known s names first limit count → u.number < count
used_below s names first limit count u h k =
    below_count s names first limit count k.named k.kind u.number h.number (h.filled k.size)

-- one name more of this kind, at its end
module _ (s : List ℕ) (names : List Name) {first limit count : ℕ} {named : ℕ → Name} where
  pub one_more :
      (after : ℕ → Name) (n : Name) → first + count < length names → count < limit → Within s n → after count ≡ n
      → ((i : ℕ) → i < count → after i ≡ named i) → Kind s names first limit count named
      → Kind s (set names (first + count) n) first limit (count + 1) after
  one_more after n size room w new old k = record {
    few = omega arith;
    filled = λ i h. stored (λ (m : Name). m ≡ after i) names (first + count) (first + i) n no_name size
        (λ e. let j : i ≡ count = omega arith in rw j (sym new))
        (λ e. let j : i < count = omega arith in k.filled i j ∙ sym (old i j));
    empty = λ i l h. stored (λ (m : Name). m.len ≡ 0) names (first + count) (first + i) n no_name size
        (λ e. absurd (omega arith))
        (λ e. k.empty i (omega arith) h);
    within = λ i h. when_equal (Within s (after i)) i count
        (λ e. rw (e, new) w)
        (λ e. let j : i < count = omega arith in rw (old i j) (k.within i j));
  }

  -- a name of another kind, in slot j
  pub elsewhere :
      (j : ℕ) (n : Name) → j < length names → ((i : ℕ) → i < limit → first + i ≡ j → ⊥)
      → Kind s names first limit count named → Kind s (set names j n) first limit count named
  elsewhere j n size off k = record {
    few = k.few;
    filled = λ i h. stored (λ (m : Name). m ≡ named i) names j (first + i) n no_name size
        (λ e. absurd (off i (omega (arith, k.few)) e))
        (λ _. k.filled i h);
    empty = λ i l h. stored (λ (m : Name). m.len ≡ 0) names j (first + i) n no_name size
        (λ e. absurd (off i h e))
        (λ _. k.empty i l h);
    within = k.within;
  }

  -- the same names, held otherwise
  pub renamed :
      (after : ℕ → Name) → ((i : ℕ) → after i ≡ named i) → Kind s names first limit count named
      → Kind s names first limit count after
  renamed after e k = record {
    few = k.few;
    filled = λ i h. k.filled i h ∙ sym (e i);
    empty = k.empty;
    within = λ i h. rw (e i) (k.within i h);
  }

-- the order of the two names does not matter
eqb_swap : (a b : ℕ) → eqb a b ≡ eqb b a
eqb_swap a b =
    when_equal (eqb a b ≡ eqb b a) a b
    (λ e. eq-eqb a b e ∙ sym (eq-eqb b a (sym e)))
    (λ e. ne_eqb a b e ∙ sym (ne_eqb b a (λ (q : b ≡ a). e (sym q))))

agree_swap : (n : ℕ) (x y : List ℕ) → agree n x y ≡ agree n y x
unfolding agree
agree_swap zero x y = refl
agree_swap (suc n) [] [] = refl
agree_swap (suc n) [] (b ∷ y) = refl
agree_swap (suc n) (a ∷ x) [] = refl
agree_swap (suc n) (a ∷ x) (b ∷ y) = rw (eqb_swap a b, agree_swap n x y)

same_swap : (m : ℕ) (x : List ℕ) (n : ℕ) (y : List ℕ) → same m x n y ≡ same n y m x
unfolding same
same_swap m x n y =
    when_equal (same m x n y ≡ same n y m x) m n
    (λ e. rw (e, agree_swap n x y))
    (λ e. rw (ne_eqb m n e, ne_eqb n m (λ (q : n ≡ m). e (sym q))))

pub unlike_swap : (s : List ℕ) (m n : Name) → Unlike s m n → Unlike s n m
unlike_swap s m n u = same_swap n.len (drop n.place s) m.len (drop m.place s) ∙ u

-- a name with bytes is spelled otherwise than an empty slot
pub unlike_empty : (s : List ℕ) (m n : Name) → 0 < m.len → n.len ≡ 0 → Unlike s m n
unfolding same
unlike_empty s m n h e = rw (ne_eqb m.len n.len (λ (q : m.len ≡ n.len). omega arith))

-- all names so far differ
unfoldable pub Differ : List ℕ → List Name → Type 0
Differ s names = (i j : ℕ) → (i ≡ j → ⊥) → 0 < (slot names i).len → Unlike s (slot names i) (slot names j)

-- one name more, spelled otherwise than all
pub differ_more :
    (s : List ℕ) (names : List Name) (k : ℕ) (n : Name) → length names ≡ name_slots → k < name_slots → 0 < n.len
    → ((i : ℕ) → i < name_slots → Unlike s (slot names i) n) → Differ s names → Differ s (set names k n)
unfolding Differ
differ_more s names k n size room some other all i j d =
    stored (λ (m : Name). 0 < m.len → Unlike s m (slot (set names k n) j)) names k i n no_name (omega arith)
    (λ e _. stored (λ (m : Name). Unlike s n m) names k j n no_name (omega arith)
    (λ q. absurd (d (e ∙ sym q)))
    (λ _. new j))
    (λ e h. stored (λ (m : Name). Unlike s (slot names i) m) names k j n no_name (omega arith)
    (λ _. old i h)
    (λ _. all i j d h))
  where
    new : (j : ℕ) → Unlike s n (slot names j)
    new j = by (ltb j name_slots) refl
      where
        by : (b : Bool) → ltb j name_slots ≡ b → Unlike s n (slot names j)
        by true e = unlike_swap s (slot names j) n (other j (ltb-true j name_slots e))
        by false e =
            unlike_empty s n (slot names j) some
            (ap_len (get_or-eq_default names no_name (omega (arith, ltb-false j name_slots e))))
          where
            ap_len : slot names j ≡ no_name → (slot names j).len ≡ 0
            ap_len q = rw q

    old : (i : ℕ) → 0 < (slot names i).len → Unlike s (slot names i) n
    old i h = by (ltb i name_slots) refl
      where
        by : (b : Bool) → ltb i name_slots ≡ b → Unlike s (slot names i) n
        by true e = other i (ltb-true i name_slots e)
        by false e = absurd (none (get_or-eq_default names no_name (omega (arith, ltb-false i name_slots e))))
          where
            none : slot names i ≡ no_name → ⊥
            none q = let z : 0 < 0 = rw q at h in omega arith
