-- Laws of the tests of Tests.antt.
use Rattle.std.specs.Prelude.{◌≡◌, refl, ◌↔◌, ◌⊎◌, Bool, true, false, not, ◌&&◌, ◌||◌, cond, ℕ, zero, suc, ◌+◌, ◌≤◌, ◌<◌, T, ltb}
use Rattle.std.proofs.Common.{sym, subst, inl, inr, ⊎_elim, eq-or-lt_of_le, le_of_suc-le-suc, not-suc-le-zero, arith, lt→ltb, ltb→lt}
use Rattle.std.proofs.Math.Option.{Option, none, some}
use Rattle.systems.specs.Tests.{all, any, least, ◌⇒◌, stays, lands}

-- the parts of a test
pub and_T : (a b : Bool) → T a → T b → T (a && b)
and_T true b p q = q
and_T false b p q = elim p [ ]

pub and_left : (a b : Bool) → T (a && b) → T a
and_left true b p = tt
and_left false b p = elim p [ ]

pub and_right : (a b : Bool) → T (a && b) → T b
and_right true b p = p
and_right false b p = elim p [ ]

pub and_both : (a b : Bool) → T (a && b) → T a × T b
and_both true b p = (tt, p)
and_both false b p = elim p [ ]

pub or_cases : (a b : Bool) → T (a || b) → T a ⊎ T b
or_cases true b t = inl tt
or_cases false b t = inr t

pub or_left : (a b : Bool) → T a → T (a || b)
or_left true b t = tt
or_left false b t = elim t [ ]

pub or_right : (a b : Bool) → T b → T (a || b)
or_right true b t = tt
or_right false b t = t

-- a number below a bound that passes
pub below_iff : (i n : ℕ) (b : Bool) → T (ltb i n && b) ↔ ((i < n) × T b)
below_iff i n b = (
  λ h. let (l, t) = and_both (ltb i n) b h in (ltb→lt i n l, t),
  λ (l, t). and_T (ltb i n) b (lt→ltb i n l) t,
)

pub T_dec : (b : Bool) → T b ⊎ T (not b)
T_dec true = inl tt
T_dec false = inr tt

pub T_true : (b : Bool) → T b → b ≡ true
T_true true t = refl
T_true false t = elim t [ ]

pub T_false : (b : Bool) → T (not b) → b ≡ false
T_false false t = refl
T_false true t = elim t [ ]

-- tests that pass alike are the same
pub T_same : (a b : Bool) → (T a → T b) → (T b → T a) → a ≡ b
T_same true true f g = refl
T_same true false f g = absurd (f tt)
T_same false true f g = absurd (g tt)
T_same false false f g = refl

below_suc : {P : ℕ → Type 0} (n : ℕ) → P n → ((i : ℕ) → i < n → P i) → (i : ℕ) → i < suc n → P i
below_suc {P} n here rest i h = ⊎_elim (λ e. subst P (sym e) here) (λ l. rest i l)
    (eq-or-lt_of_le (le_of_suc-le-suc h))

pub all_elim : (n : ℕ) (p : ℕ → Bool) → T (all n p) → (i : ℕ) → i < n → T (p i)
unfolding all
all_elim zero p t i h = absurd (not-suc-le-zero h)
all_elim (suc n) p t i h = below_suc {P = λ (k : ℕ). T (p k)} n (and_left (p n) (all n p) t)
    (all_elim n p (and_right (p n) (all n p) t)) i h

pub all_intro : (n : ℕ) (p : ℕ → Bool) → ((i : ℕ) → i < n → T (p i)) → T (all n p)
unfolding all
all_intro zero p f = tt
all_intro (suc n) p f = and_T (p n) (all n p) (f n (omega arith)) (all_intro n p (λ i h. f i (omega arith)))

pub any_elim : (n : ℕ) (p : ℕ → Bool) → T (any n p) → (i : ℕ) × (i < n) × T (p i)
unfolding any
any_elim (suc n) p t = ⊎_elim {C = (i : ℕ) × (i < suc n) × T (p i)} (λ h. (n, omega arith, h))
    (λ h. let r = any_elim n p h in (r.0, omega arith, r.2)) (or_cases (p n) (any n p) t)
any_elim zero p t = elim t [ ]

pub any_intro : (n : ℕ) (p : ℕ → Bool) (i : ℕ) → i < n → T (p i) → T (any n p)
unfolding any
any_intro zero p i h t = absurd (not-suc-le-zero h)
any_intro (suc n) p i h t = ⊎_elim (λ e. or_left (p n) (any n p) (subst (λ (k : ℕ). T (p k)) e t))
    (λ l. or_right (p n) (any n p) (any_intro n p i l t)) (eq-or-lt_of_le (le_of_suc-le-suc h))

pub least_passes : (p : ℕ → Bool) (i n j : ℕ) → i ≤ j → j < i + n → T (p j) → T (p (least p i n)) × (least p i n ≤ j)
unfolding least
least_passes p i zero j h l t = absurd (omega arith)
least_passes p i (suc n) j h l t = go (p i) refl (λ r. least_passes p (suc i) n j r (omega arith) t)
  where
    go : (b : Bool) → p i ≡ b → (i < j → T (p (least p (suc i) n)) × (least p (suc i) n ≤ j))
        → T (p (elim b [ true ↦ i | false ↦ least p (suc i) n ]))
        × ((elim b [ true ↦ i | false ↦ least p (suc i) n ]) ≤ j)
    go true e ih = (subst T (sym e) tt, h)
    go false e ih = ⊎_elim {C = T (p (least p (suc i) n)) × (least p (suc i) n ≤ j)}
        (λ q. absurd (subst T (e) (subst (λ k. T (p k)) (sym q) t))) ih (eq-or-lt_of_le h)

pub imp_elim : (a b : Bool) → T (a ⇒ b) → T a → T b
unfolding ◌⇒◌
imp_elim true b h t = h
imp_elim false b h t = elim t [ ]

pub imp_intro : (a b : Bool) → (T a → T b) → T (a ⇒ b)
unfolding ◌⇒◌
imp_intro true b f = f tt
imp_intro false b f = tt

pub stays_elim : (X : ℕ → Bool) (o : Option ℕ) (t : ℕ) → T (stays X o) → o ≡ some t → T (X t)
unfolding stays
stays_elim X o t h e = subst (λ (o : Option ℕ). T (stays X o)) e h

pub stays_intro : (X : ℕ → Bool) (o : Option ℕ) → ((t : ℕ) → o ≡ some t → T (X t)) → T (stays X o)
unfolding stays
stays_intro X none f = tt
stays_intro X (some t) f = f t refl

pub lands_elim : (X : ℕ → Bool) (o : Option ℕ) → T (lands X o) → (t : ℕ) × (o ≡ some t) × T (X t)
unfolding lands
lands_elim X (some t) h = (t, refl, h)
lands_elim X none h = elim h [ ]

pub lands_intro : (X : ℕ → Bool) (o : Option ℕ) (t : ℕ) → o ≡ some t → T (X t) → T (lands X o)
unfolding lands
lands_intro X o t e h = subst (λ (o : Option ℕ). T (lands X o)) (sym e) h

pub none_some : {X Y : Type 0} (t : X) → none ≡ some t → Y
none_some t e = let z : ◌≡◌ {A = ℕ} 0 1 = cc in absurd (omega arith)

-- an option that is there only if a test passes
pub guard_elim : {X : Type 0} (b : Bool) (o : Option X) (t : X) → cond b o none ≡ some t → T b × (o ≡ some t)
guard_elim true o t e = (tt, e)
guard_elim false o t e = none_some t e

pub all_same : (n : ℕ) (p q : ℕ → Bool) → ((i : ℕ) → i < n → p i ≡ q i) → all n p ≡ all n q
unfolding all
all_same zero p q e = refl
all_same (suc n) p q e = rw (e n (omega arith), all_same n p q (λ i h. e i (omega arith)))

pub any_same : (n : ℕ) (p q : ℕ → Bool) → ((i : ℕ) → i < n → p i ≡ q i) → any n p ≡ any n q
unfolding any
any_same zero p q e = refl
any_same (suc n) p q e = rw (e n (omega arith), any_same n p q (λ i h. e i (omega arith)))

pub stays_same : (p q : ℕ → Bool) (o : Option ℕ) → ((t : ℕ) → o ≡ some t → p t ≡ q t) → stays p o ≡ stays q o
unfolding stays
stays_same p q none e = refl
stays_same p q (some t) e = e t refl

pub lands_same : (p q : ℕ → Bool) (o : Option ℕ) → ((t : ℕ) → o ≡ some t → p t ≡ q t) → lands p o ≡ lands q o
unfolding lands
lands_same p q none e = refl
lands_same p q (some t) e = e t refl
