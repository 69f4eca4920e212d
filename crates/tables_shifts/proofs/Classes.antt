-- Laws of classes: what changes when states are put into them, and what stays.
use mathlib.Core.Path.{◌≡◌, refl, sym, ◌∙◌}
use mathlib.Core.Logic.{inl, inr, ⊎_elim, ◌≢◌}
use mathlib.Core.Bool.{true, false}
use mathlib.Core.List.{List}
use Prim.Native.Nat.{ℕ, ◌+◌, ◌-◌, ◌*◌, ◌/◌, ◌%◌, ◌^◌, ◌≤◌, ◌<◌}
use native.Mathlib.Nat.{le_refl, mul-le-mul_right, add-mul}
use native.Mathlib.Decide.{ℕ_discrete}
use native.Mathlib.Omega.{arith}
use lib.Dec.{eqb}
use lib.Bits.{bit_or}
use borrow.Author.Tests.{eq-eqb}
use lib.ListN.{length, get_or, set, length-set}
use lib.Seq.{get_or-set_same, get_or-set_other}
use Rattle.limits.specs.Limits.{state_limit, step_limit, move_limit, keep_limit}
use Rattle.bitmaps.specs.BitLaws.{less}
use Rattle.bitmaps.specs.Packed.{bytes_for}
use Rattle.move_tables.specs.Moves.{no_move, Bounded}
use Rattle.tables_runs.specs.Runs.{goes}
use Rattle.tables_runs.specs.RunsLaws.{zero_byte, runs_room}
use Rattle.tables_shifts.specs.Shifts.{class_limit, class_numbers, class_entries, count_of, class_at, mask_at, first_of, end_of, target_of, leads, in_class, Class, Classed, Room}
use Rattle.tables_shifts.specs.ShiftsLaws.{number_room}
use Rattle.tables_shifts.specs.Placing.{Only, Filled, Behind, Beside, Opened, Added}
use Rattle.tables_shifts.proofs.Bits.{or_either, or_left, or_true, put_bit, same_bit}

-- masks do not meet
apart : (b : ℕ) {n m : ℕ} → n < m → n * b + b ≤ m * b
apart b {n} {m} h = omega (arith, mul-le-mul_right b (let q : n + 1 ≤ m = omega arith in q), add-mul n 1 b)

module _ (w c i : ℕ) (hi : i < class_limit) where
  pub mask_few : w ≤ state_limit → c < step_limit → mask_at w c i ≤ step_limit * class_limit * keep_limit
  mask_few hw hc = omega (
    arith,
    mul-le-mul_right (bytes_for w) (let q : c * class_limit + i ≤ step_limit * class_limit = omega arith in q),
  )

  pub mask_room : {steps : ℕ} {classes masks : List ℕ} → Room w steps classes masks → c < steps
      → mask_at w c i + bytes_for w ≤ length masks
  mask_room {steps} R hc = omega (
    arith,
    apart (bytes_for w) (let q : c * class_limit + i < steps * class_limit = omega arith in q),
    R.bits,
  )

  -- the mask of a class stands among those of its step
  mask_after : mask_at w c 0 ≤ mask_at w c i
  mask_after = mul-le-mul_right (bytes_for w) (let q : c * class_limit + 0 ≤ c * class_limit + i = omega arith in q)

  mask_before : mask_at w c i + bytes_for w ≤ mask_at w (c + 1) 0
  mask_before = apart (bytes_for w) (let q : c * class_limit + i < (c + 1) * class_limit + 0 = omega arith in q)

-- where the runs of a step stand
pub run_base : {w steps : ℕ} {m : List ℕ} → Bounded w steps m → (c : ℕ) → c < steps → c * w + w ≤ move_limit
run_base {w} {steps} B c h = omega (arith, apart w h, runs_room steps w state_limit B.short B.few)

-- what changed lies in a range
pub only_none : (a e : ℕ) (k : List ℕ) → Only a e k k
only_none a e k = record { sized = refl; same = λ j h. refl }

pub only_then : {a e a' e' : ℕ} {k k₁ k₂ : List ℕ} → Only a e k k₁ → Only a' e' k₁ k₂ → {b f : ℕ} → b ≤ a → b ≤ a'
    → e ≤ f → e' ≤ f → Only b f k k₂
only_then C D l l' h h' = record {
  sized = D.sized ∙ C.sized;
  same = λ j p. ⊎_elim (λ q. D.same j (inl (omega arith)) ∙ C.same j (inl (omega arith)))
      (λ q. D.same j (inr (omega arith)) ∙ C.same j (inr (omega arith))) p;
}

only_set : (a e : ℕ) (k : List ℕ) (j v : ℕ) → a ≤ j → j < e → Only a e k (set k j v)
only_set a e k j v l h = record {
  sized = length-set k j v;
  same = λ i p. get_or-set_other k j i v 0 (λ q. ⊎_elim (λ z. omega arith) (λ z. omega arith) p);
}

-- entries filled one by one
pub filled_none : (f : ℕ → ℕ) (j : ℕ) (k : List ℕ) → Filled f j j k k
filled_none f j k = record { only = only_none j j k; is = λ i l h. absurd (omega arith) }

pub filled_more : {f : ℕ → ℕ} {j i : ℕ} {k k' : List ℕ} (v : ℕ) → i < length k → j ≤ i → v ≡ f i → Filled f j i k k'
    → Filled f j (i + 1) k (set k' i v)
filled_more {f} {j} {i} {k} {k'} v h l e F = record {
  only = only_then F.only (only_set j (i + 1) k' i v l (omega arith)) (omega arith) (omega arith) (omega arith)
      (omega arith);
  is = λ n a b. elim (ℕ_discrete n i) [
    | yes q ↦ rw (q, get_or-set_same k' i v 0 (omega (arith, F.only.sized))) e
    | no q ↦ get_or-set_other k' i n v 0 q ∙ F.is n a (⊎_elim (λ z. z) (λ z. absurd (q (omega arith))) (less n i))
  ];
}

-- the numbers of a class and its mask, as they were
class_same : {m : List ℕ} {w steps : ℕ} {classes masks classes' masks' : List ℕ} {c i t t' : ℕ}
    → first_of classes' c i ≡ first_of classes c i → end_of classes' c i ≡ end_of classes c i
    → target_of classes' c i ≡ target_of classes c i
    → ((x : ℕ) → x < w → in_class masks' w c i x ≡ in_class masks w c i x) → t ≤ t'
    → Class m w steps classes masks c i t → Class m w steps classes' masks' c i t'
class_same p q r f l C = record {
  some = rw (p, q) C.some;
  inside = rw q (omega (arith, C.inside));
  fits = rw (p, q, r) C.fits;
  states = λ x h e. rw (p, q, r) (C.states x h (sym (f x h) ∙ e));
}

-- a class other than the one that changed
module _ {w c i : ℕ} {classes masks classes' masks' : List ℕ} (B : Beside w c i classes masks classes' masks') where
  other_mask : (d j : ℕ) → d * class_limit + j ≢ c * class_limit + i → (x : ℕ) → x < w
      → in_class masks' w d j x ≡ in_class masks w d j x
  other_mask d j n x h = same_bit masks masks' (8 * mask_at w d j + x) (B.bits.same ((8 * mask_at w d j + x) / 8)
      (⊎_elim (λ l. inl (omega (arith, apart (bytes_for w) l))) (λ l. inr (omega (
        arith,
        apart (bytes_for w)
            (above l),
      )))
      (less (d * class_limit + j) (c * class_limit + i))))
    where
      above : c * class_limit + i ≤ d * class_limit + j → c * class_limit + i < d * class_limit + j
      above l = ⊎_elim (λ a. a) (λ a. absurd (n (omega arith))) (less (c * class_limit + i) (d * class_limit + j))

  other_number : (j : ℕ) → j ≢ i → (n : ℕ) → 1 ≤ n → n ≤ class_numbers
      → get_or classes' (class_at c j n) 0 ≡ get_or classes (class_at c j n) 0
  other_number j d n l h = B.numbers.same (class_at c j n)
      (⊎_elim (λ a. inl (omega arith)) (λ a. inr (omega (arith, above a))) (less j i))
    where
      above : i ≤ j → i < j
      above l = ⊎_elim (λ a. a) (λ a. absurd (d (omega arith))) (less i j)

  pub class_beside : {m : List ℕ} {steps j t t' : ℕ} → j ≢ i → t ≤ t' → Class m w steps classes masks c j t
      → Class m w steps classes' masks' c j t'
  class_beside {j = j} d l = class_same (other_number j d 1 (omega arith) (omega arith))
      (other_number j d 2 (omega arith) (omega arith)) (other_number j d 3 (omega arith) (omega arith))
      (other_mask c j (λ e. d (omega arith))) l

  pub beside_behind : i < class_limit → Behind w c classes masks classes' masks'
  beside_behind h = record {
    numbers = record {
      sized = B.numbers.sized;
      same = λ j p. B.numbers.same j (⊎_elim (λ l. inl
          (omega arith)) (λ l. inr (omega arith)) p);
    };
    bits = record {
      sized = B.bits.sized;
      same = λ j p. B.bits.same j (⊎_elim (λ l. inl (omega (arith, mask_after w c i h)))
          (λ l. inr (omega (arith, mask_before w c i h))) p);
    };
  }

-- a class that can take the state t
record Open (m : List ℕ) (w steps : ℕ) (classes masks : List ℕ) (c i t : ℕ) : Type 0 where
  pub first : first_of classes c i ≤ t
  pub there : goes m steps c t ≡ leads classes c i t
  pub states : (x : ℕ) → x < w → in_class masks w c i x ≡ true → (first_of classes c i ≤ x)
      × ((x < t + 1) × (goes m steps c x ≡ leads classes c i x))

class_add : {m : List ℕ} {w steps : ℕ} {classes masks classes' masks' : List ℕ} {c i t : ℕ} → goes m steps c t < w
    → Open m w steps classes masks c i t → Added w c i t classes masks classes' masks'
    → Class m w steps classes' masks' c i (t + 1)
class_add {m} {w} {steps} {c = c} {i = i} {t = t} h O A = record {
  some = rw (A.first, A.end) (omega (arith, O.first));
  inside = rw A.end (omega arith);
  fits = rw (A.first, A.end, A.target) (omega (arith, O.first, O.there));
  states = λ x l e. rw (A.first, A.end, A.target) (⊎_elim (O.states x l)
      (λ q. rw q (O.first, (omega arith, O.there))) (or_either _ x t (sym (A.states x l) ∙ e)));
}

-- a state with no move
pub classed_skip : {m : List ℕ} {w steps : ℕ} {classes masks : List ℕ} {c k t : ℕ} → goes m steps c t ≡ no_move
    → Classed m w steps classes masks c k t → Classed m w steps classes masks c k (t + 1)
classed_skip {m} {steps = steps} {c = c} {t = t} z C = record {
  few = C.few;
  class = λ i h. class_same refl refl refl (λ x l. refl) (omega arith) (C.class i h);
  all = λ x h n. elim (ℕ_discrete x t) [
    | yes q ↦ absurd (n (rw q z))
    | no q ↦ C.all x (⊎_elim (λ a. a) (λ a. absurd (q (omega arith))) (less x t)) n
  ];
}

-- a state put into class i, which is one of the k classes or the next
module _ {m : List ℕ} {w steps : ℕ} {classes masks classes' masks' : List ℕ} {c k i t : ℕ} (ht : t < w)
    (hw : goes m steps c t < w) (A : Added w c i t classes masks classes' masks') where
  classed_put : (n : ℕ) → n ≤ class_limit → k ≤ n → i < n → ((j : ℕ) → j < n → j ≢ i → j < k)
      → Classed m w steps classes masks c k t → Open m w steps classes masks c i t
      → Classed m w steps classes' masks' c n (t + 1)
  classed_put n hn l hi f C O = record {
    few = hn;
    class = λ j h. elim (ℕ_discrete j i) [
      | yes q ↦ rw q (class_add hw O A)
      | no q ↦ class_beside A.beside q (omega arith) (C.class j (f j h q))
    ];
    all = λ x h g. elim (ℕ_discrete x t) [
      | yes q ↦ (i, (hi, A.states x (omega arith) ∙ or_true (in_class masks w c i x) (eqb x t) (eq-eqb x t q)))
      | no q ↦ old x (below x h q) g
    ];
  }
    where
      below : (x : ℕ) → x < t + 1 → x ≢ t → x < t
      below x h q = ⊎_elim (λ a. a) (λ a. absurd (q (omega arith))) (less x t)

      old : (x : ℕ) → x < t → (goes m steps c x ≡ no_move → ⊥) → (j : ℕ) × ((j < n) ×
          (in_class masks' w c j x ≡ true))
      old x h g = let r = C.all x h g in (
        r.0,
        (
          omega (arith, r.1.0),
          elim (ℕ_discrete r.0 i) [
            | yes q ↦ rw q (A.states x (omega arith) ∙ or_left (in_class masks w c i x) (eqb x t) (rw q at
                r.1.1))
            | no q ↦ other_mask A.beside c r.0 (λ e. q (omega arith)) x (omega arith) ∙ r.1.1
          ],
        ),
      )

  -- into one of the classes
  pub classed_add : i < k → leads classes c i t ≡ goes m steps c t → Classed m w steps classes masks c k t
      → Classed m w steps classes' masks' c k (t + 1)
  classed_add h e C = classed_put k C.few (omega arith) h (λ j l q. l) C (record {
    first = omega (arith, (C.class i h).some, (C.class i h).inside);
    there = sym e;
    states = λ x l p. let s = (C.class i h).states x l p in (
      s.0,
      (
        omega
            (arith, s.1.0, (C.class i h).inside),
        s.1.1,
      ),
    );
  })

-- into a new one
pub classed_new : {m : List ℕ} {w steps : ℕ} {classes masks classes₁ masks₁ classes' masks' : List ℕ} {c k t : ℕ}
    → t < w → goes m steps c t < w → k < class_limit → Opened w c k t (goes m steps c t) classes masks classes₁ masks₁
    → Added w c k t classes₁ masks₁ classes' masks' → Classed m w steps classes masks c k t
    → Classed m w steps classes' masks' c (k + 1) (t + 1)
classed_new {m} {w} {steps} {classes} {masks} {classes₁} {masks₁} {c = c} {k = k} {t = t} ht hw hk P A C = classed_put ht hw A (k + 1)
    (omega arith) (omega arith) (omega arith) (λ j l q. ⊎_elim (λ a. a) (λ a. absurd (q (omega arith)))
    (less j k)) before
    (record {
      first = rw P.first (omega arith);
      there = rw (P.first, P.target) (omega arith);
      states = λ x l p. let z : false ≡ true = sym (P.states x l) ∙ p in let y : ◌≡◌ {A = ℕ} 0 1 = cc in absurd
          (omega arith);
    })
  where
    before : Classed m w steps classes₁ masks₁ c k t
    before = record {
      few = C.few;
      class = λ j h. class_beside P.beside (λ q. omega arith) (omega arith) (C.class j h);
      all = λ x h n. let r = C.all x h n in
          (r.0, (r.1.0, other_mask P.beside c r.0 (λ e. omega (arith, r.1.0)) x (omega arith) ∙ r.1.1));
    }

-- a new class
pub opened : {w steps c i : ℕ} {classes masks masks' : List ℕ} (t v : ℕ) → i < class_limit → c < steps
    → Room w steps classes masks → Filled (λ (j : ℕ). 0) (mask_at w c i) (mask_at w c i + bytes_for w) masks masks'
    → Opened w c i t v classes masks (set (set classes (class_at c i 1) t) (class_at c i 3) v) masks'
opened {w} {steps} {c} {i} {classes} {masks} {masks'} t v hi hc R F = record {
  beside = record {
    numbers = only_then (only_set (class_at c i 1) (class_at c (i + 1) 1) classes (class_at c i 1) t (omega arith)
        (omega arith))
        (only_set (class_at c i 1) (class_at c (i + 1) 1) (set classes (class_at c i 1) t) (class_at c i 3) v
        (omega arith)
        (omega arith)) (omega arith) (omega arith) (omega arith) (omega arith);
    bits = F.only;
  };
  first = get_or-set_other (set classes (class_at c i 1) t) (class_at c i 3) (class_at c i 1) v 0 (λ z. omega arith)
      ∙ get_or-set_same classes (class_at c i 1) t 0 (omega (arith, number_room R c hc));
  target = get_or-set_same (set classes (class_at c i 1) t) (class_at c i 3) v 0
      (omega (arith, number_room R c hc, length-set classes (class_at c i 1) t));
  states = λ x h. zero_byte masks' ((8 * mask_at w c i + x) / 8) (F.is ((8 * mask_at w c i + x) / 8)
      (omega arith) (omega arith))
      (8 * mask_at w c i + x) refl;
}

-- a state put into a class
pub added : {w steps c i t : ℕ} {classes masks : List ℕ} → i < class_limit → c < steps → t < w
    → Room w steps classes masks
    → Added w c i t classes masks (set classes (class_at c i 2) (t + 1))
    (set masks (mask_at w c i + t / 8) (bit_or (get_or masks (mask_at w c i + t / 8) 0) (2 ^ (7 - t % 8))))
added {w} {steps} {c} {i} {t} {classes} {masks} hi hc ht R = record {
  beside = record {
    numbers = only_set (class_at c i 1) (class_at c (i + 1) 1) classes (class_at c i 2) (t + 1) (omega arith)
        (omega arith);
    bits = only_set (mask_at w c i) (mask_at w c i + bytes_for w) masks (mask_at w c i + t / 8) _ (omega arith)
        (omega arith);
  };
  first = get_or-set_other classes (class_at c i 2) (class_at c i 1) (t + 1) 0 (λ z. omega arith);
  target = get_or-set_other classes (class_at c i 2) (class_at c i 3) (t + 1) 0 (λ z. omega arith);
  end = get_or-set_same classes (class_at c i 2) (t + 1) 0 (omega (arith, number_room R c hc));
  states = λ x h. put_bit masks (mask_at w c i) t (omega (arith, mask_room w c i hi R hc)) x;
}

-- step c changed, once and again
pub behind_none : (w c : ℕ) (classes masks : List ℕ) → Behind w c classes masks classes masks
behind_none w c classes masks = record { numbers = only_none _ _ classes; bits = only_none _ _ masks }

pub behind_then : {w c : ℕ} {classes masks classes₁ masks₁ classes₂ masks₂ : List ℕ}
    → Behind w c classes masks classes₁ masks₁ → Behind w c classes₁ masks₁ classes₂ masks₂
    → Behind w c classes masks classes₂ masks₂
behind_then {w} {c} B D = record {
  numbers = only_then B.numbers D.numbers (omega arith) (omega arith) (omega arith) (omega arith);
  bits = only_then B.bits D.bits (le_refl (mask_at w c 0)) (le_refl (mask_at w c 0)) (le_refl (mask_at w
      (c + 1) 0))
      (le_refl (mask_at w (c + 1) 0));
}

pub room_sized : {w steps : ℕ} {classes masks classes' masks' : List ℕ} → Room w steps classes masks
    → length classes' ≡ length classes → length masks' ≡ length masks → Room w steps classes' masks'
room_sized R p q = record { numbers = rw p R.numbers; bits = rw q R.bits }

pub room_kept : {w steps c : ℕ} {classes masks classes' masks' : List ℕ} → Room w steps classes masks
    → Behind w c classes masks classes' masks' → Room w steps classes' masks'
room_kept R B = room_sized R B.numbers.sized B.bits.sized

pub classed_none : (m : List ℕ) (w steps : ℕ) (classes masks : List ℕ) (c : ℕ) → Classed m w steps classes masks c 0 0
classed_none m w steps classes masks c = record {
  few = omega arith;
  class = λ i h. absurd (omega arith);
  all = λ x h n. absurd (omega arith);
}

-- the classes of a step whose numbers and masks are as they were
classed_same : {m : List ℕ} {w steps : ℕ} {classes masks classes' masks' : List ℕ} {c k : ℕ}
    → ((i n : ℕ) → i < class_limit → 1 ≤ n → n ≤ class_numbers → get_or classes' (class_at c i n) 0 ≡ get_or classes
    (class_at c i n) 0)
    → ((i x : ℕ) → i < class_limit → x < w → in_class masks' w c i x ≡ in_class masks w c i x)
    → Classed m w steps classes masks c k w → Classed m w steps classes' masks' c k w
classed_same f g C = record {
  few = C.few;
  class = λ i h. let l : i < class_limit = omega (arith, C.few) in
      class_same (f i 1 l (omega arith) (omega arith)) (f i 2 l (omega arith) (omega arith))
      (f i 3 l (omega arith) (omega arith)) (λ x e. g i x l e) (omega arith) (C.class i h);
  all = λ x h n. let r = C.all x h n in (r.0, (r.1.0, g r.0 x (omega (arith, C.few, r.1.0)) h ∙ r.1.1));
}

-- the classes of every step before c
abbrev pub Before : List ℕ → ℕ → ℕ → List ℕ → List ℕ → ℕ → Type 0
Before m w steps classes masks c = (b : ℕ) → b < c → 0 < count_of classes b
    → Classed m w steps classes masks b (count_of classes b) w

-- one step more
pub before_more : {m : List ℕ} {w steps : ℕ} {classes masks classes' masks' : List ℕ} {c : ℕ} (k : ℕ) → c < steps
    → Room w steps classes masks → Before m w steps classes masks c → Behind w c classes masks classes' masks'
    → (0 < k → Classed m w steps classes' masks' c k w)
    → Before m w steps (set classes' (c * class_entries) k) masks' (c + 1)
before_more {m} {w} {steps} {classes} {masks} {classes'} {masks'} {c} k hc R P B C b h = elim (ℕ_discrete b c) [
  | yes q ↦ rw q here
  | no q ↦ there (⊎_elim (λ l. l) (λ l. absurd (q (omega arith))) (less b c))
]
  where
    other : (j : ℕ) → j ≢ c * class_entries → get_or (set classes' (c * class_entries) k) j 0 ≡ get_or classes' j 0
    other j n = get_or-set_other classes' (c * class_entries) j k 0 n

    here : 0 < count_of (set classes' (c * class_entries) k) c
        → Classed m w steps (set classes' (c * class_entries) k) masks' c (count_of (set classes'
        (c * class_entries) k) c) w
    here = rw (get_or-set_same classes' (c * class_entries) k 0 (omega (arith, number_room (room_kept R B) c hc)))
        (λ l. classed_same (λ i n a d e. other (class_at c i n) (λ z. omega arith)) (λ i x a d. refl) (C l))

    there : b < c → 0 < count_of (set classes' (c * class_entries) k) b
        → Classed m w steps (set classes' (c * class_entries) k) masks' b (count_of (set classes'
        (c * class_entries) k) b) w
    there l = rw (
      other (b * class_entries) (λ z. omega arith),
      B.numbers.same (b * class_entries) (inl
          (omega arith)),
    )
        (λ z. classed_same (λ i n a d e. other (class_at b i n) (λ y. omega arith)
        ∙ B.numbers.same (class_at b i n) (inl (omega arith)))
        (λ i x a d. same_bit masks masks' (8 * mask_at w b i + x) (B.bits.same ((8 * mask_at w b i + x) / 8)
        (inl (omega (
          arith,
          apart (bytes_for w) (let q : b * class_limit + i < c * class_limit + 0 = omega arith in
              q),
        )))))
        (P b l z))
