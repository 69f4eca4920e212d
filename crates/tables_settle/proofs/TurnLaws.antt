-- Looking at one row keeps the state of the removal.
use mathlib.Core.Path.{◌≡◌, refl, sym, subst, ap, ◌∙◌}
use mathlib.Core.Logic.{◌⊎◌, inl, inr, ⊎_elim, ◌≢◌}
use mathlib.Core.Bool.{Bool, not}
use mathlib.Core.List.{List}
use mathlib.Core.Option.{some}
use Prim.Native.Nat.{ℕ, zero, suc, ◌+◌, ◌-◌, ◌*◌, ◌/◌, ◌%◌, ◌≤◌, ◌<◌}
use native.Mathlib.Nat.{mul-le-mul_right, add-mul, mod-lt, div-add-mod'}
use native.Mathlib.Decide.{ℕ_discrete}
use native.Mathlib.Omega.{arith}
use lib.Dec.{T}
use lib.Arith.{digits_lt}
use lib.ListN.{length, get_or, set}
use lib.Seq.{get_or-set_same, get_or-set_other}
use Rattle.systems.specs.Bools.{none_some, stays_same, lands_same}
use Rattle.systems.specs.Tests.{at, lands}
use Rattle.systems.proofs.Sieve.{Between, at_table}
use Rattle.systems.specs.Definitions.{Signature}
use Rattle.systems.specs.Finite.{FiniteSystem}
use Rattle.systems.proofs.Refinement.{pair_rule}
use Rattle.limits.specs.Limits.{pair_limit}
use Rattle.bitmaps.specs.Bits.{bit_at}
use Rattle.bitmaps.specs.BitLaws.{less}
use Rattle.bitmaps.specs.Packed.{bytes_for}
use Rattle.move_tables.specs.Moves.{Bounded, decode, no_move}
use Rattle.move_tables.specs.MoveLaws.{decode_none, decode_some, decode_inside}
use Rattle.move_tables.specs.Given.{Given}
use Rattle.tables_rows.specs.Raster.{set_at, denoted}
use Rattle.tables_rows.specs.RasterLaws.{part_at, row_end, pairs_few}
use Rattle.tables_count.specs.Pairs.{passing, pairs_set}
use Rattle.tables_count.proofs.PassingLaws.{passing_same, pairs_same}
use Rattle.tables_runs.specs.Runs.{goes}
use Rattle.tables_cut.specs.Rule.{ok_of, fine}
use Rattle.tables_visit.specs.Visit.{Visited}
use Rattle.tables_settle.specs.State.{StepFine, State, Among, Shrunk, Quiet, Moved, Turned, Swept, Rooms}
use Rattle.tables_settle.specs.RemovalLaws.{matched, between_many, denoted_at, unmatched_fails}
use Rattle.tables_settle.specs.declared.Progress.{Progress}

decode_is : (x u : ℕ) → decode x ≡ some u → u ≡ x
decode_is x u e = elim (ℕ_discrete x no_move) [
  | yes z ↦ none_some u (sym (decode_none x z) ∙ e)
  | no z ↦ let g = decode_some x z in (cc)
]

module _ {lm rm : List ℕ} {n w steps : ℕ} (left : Bounded n steps lm) (right : Bounded w steps rm) where
  -- what the raster says of a step is what its table says
  pub fine_matched : (k : List ℕ) (s t c : ℕ) → s < n → t < w → c < steps
      → fine lm rm w steps k s c t ≡ matched lm rm w steps (denoted n w k) s t c
  unfolding ok_of
  fine_matched k s t c hs ht hc = stays_same (λ u. lands (set_at w k u) (decode (goes rm steps c t)))
      (λ u. lands (λ v. at (denoted n w k) (u * w + v)) (decode (goes rm steps c t))) (decode (goes lm steps c s))
      (λ u e. lands_same (set_at w k u) (λ v. at (denoted n w k) (u * w + v)) (decode (goes rm steps c t))
      (λ v f. sym (denoted_at n w k u v (decode_inside left s c u hs hc e) (decode_inside right t c v ht hc f))))

  -- the same row leads to the same answer
  fine_same : (k k' : List ℕ) (s t c : ℕ) → s < n → t < w → c < steps
      → ((v : ℕ) → goes lm steps c s < n → v < w
      → set_at w k' (goes lm steps c s) v ≡ set_at w k (goes lm steps c s) v)
      → fine lm rm w steps k' s c t ≡ fine lm rm w steps k s c t
  unfolding ok_of
  fine_same k k' s t c hs ht hc same =
      stays_same (λ u. lands (set_at w k' u) (decode (goes rm steps c t)))
      (λ u. lands (set_at w k u) (decode (goes rm steps c t))) (decode (goes lm steps c s))
      (λ u e. lands_same (set_at w k' u) (set_at w k u) (decode (goes rm steps c t))
      (λ v f. subst (λ (x : ℕ). x < n → set_at w k' x v ≡ set_at w k x v) (sym (decode_is (goes lm steps c s) u e))
      (λ l. same v l (decode_inside right t c v ht hc f)) (decode_inside left s c u hs hc e)))

-- what one row loses the table loses
pairs_lost : (f g : ℕ → ℕ → Bool) (w n s lost : ℕ) → s < n → ((x t : ℕ) → x ≢ s → t < w → f x t ≡ g x t)
    → lost + passing (f s) w ≡ passing (g s) w → lost + pairs_set f w n ≡ pairs_set g w n
unfolding pairs_set
pairs_lost f g w zero s lost h e q = absurd (omega arith)
pairs_lost f g w (suc n) s lost h e q = elim (ℕ_discrete n s) [
  | yes z ↦
      let here : lost + passing (f n) w ≡ passing (g n) w =
      subst (λ (x : ℕ). lost + passing (f x) w ≡ passing (g x) w) (sym z) q in
      omega (arith, pairs_same f g w n (λ x t l m. e x t (λ y. omega arith) m))
  | no z ↦
      let l : s < n = ⊎_elim (λ a. a) (λ a. absurd (z (omega arith))) (less s n) in
      omega (arith, pairs_lost f g w n s lost l e q, passing_same (f n) (g n) w (λ t m. e n t z m))
]

-- a visit of row s
module _ {lm rm stamps : List ℕ} {n w steps s seen : ℕ} {k k' : List ℕ} {lost : ℕ} (hs : s < n)
    (W : Visited lm rm stamps n w steps s seen k k' lost) where
  -- the rows that it leaves alone
  other_rows : (x t : ℕ) → x ≢ s → t / 8 < bytes_for w → set_at w k' x t ≡ set_at w k x t
  unfolding bit_at
  other_rows x t e h = rw (
    part_at (bytes_for w) k' x (t / 8) h,
    part_at (bytes_for w) k x (t / 8) h,
    W.outside (x * bytes_for w + t / 8) (⊎_elim (λ a. inl (digits_lt a h)) (λ a. inr (after a)) (less x s)),
  )
    where
      above : s ≤ x → s + 1 ≤ x
      above a = ⊎_elim (λ b. absurd (e (omega arith))) (λ b. b) (less x (s + 1))

      after : s ≤ x → s * bytes_for w + bytes_for w ≤ x * bytes_for w + t / 8
      after a = omega (arith, mul-le-mul_right (bytes_for w) (above a), add-mul s 1 (bytes_for w))

  visit_counted : lost + pairs_set (set_at w k') w n ≡ pairs_set (set_at w k) w n
  visit_counted = pairs_lost (set_at w k') (set_at w k) w n s lost hs (λ x t e h. other_rows x t e (omega arith))
      W.counted

  module _ (left : Bounded n steps lm) (right : Bounded w steps rm) (wide : 0 < w) where
    -- what it takes out may be taken out
    visit_between : (A : Signature) (L R : FiniteSystem A) → Given A L R lm rm n w steps → (X : List Bool)
        → Among L R X → Between (pair_rule L R) X (denoted n w k) → Between (pair_rule L R) X (denoted n w k')
    unfolding denoted
    visit_between A L R G X among B =
        between_many (pair_rule L R) X (denoted n w k) (denoted n w k') B sub other
      where
        sub : (j : ℕ) → T (at (denoted n w k') j) → T (at (denoted n w k) j)
        sub j z =
            let (l, y) = (at_table (n * w) (λ p. set_at w k' (p / w) (p % w)) j).0 z in
            let ht : j % w < w = mod-lt j wide in
            let x : T (set_at w k (j / w) (j % w)) = elim (ℕ_discrete (j / w) s) [
              | yes e ↦ subst (λ (i : ℕ). T (set_at w k i (j % w))) (sym e)
                  (W.kept (j % w) ht (subst (λ (i : ℕ). T (set_at w k' i (j % w))) e y)).0
              | no e ↦ subst T (other_rows (j / w) (j % w) e (omega arith)) y
            ] in
            (at_table (n * w) (λ p. set_at w k (p / w) (p % w)) j).1 (l, x)

        other : (j : ℕ) → T (at (denoted n w k) j)
            → T (at (denoted n w k') j) ⊎ T (not ((pair_rule L R).keep (denoted n w k) j))
        other j z =
            let (l, y) = (at_table (n * w) (λ p. set_at w k (p / w) (p % w)) j).0 z in
            let ht : j % w < w = mod-lt j wide in
            elim (ℕ_discrete (j / w) s) [
              | yes e ↦
                  let same : s * w + j % w ≡ j = ap (λ (i : ℕ). i * w + j % w) (sym e) ∙ div-add-mod' j w in
                  ⊎_elim
                  (λ q. inl ((at_table (n * w) (λ p. set_at w k' (p / w) (p % w)) j).1
                  (l, subst (λ (i : ℕ). T (set_at w k' i (j % w))) (sym e) q)))
                  (λ (c, hc, q). inr (subst (λ (p : ℕ). T (not ((pair_rule L R).keep (denoted n w k) p))) same
                  (unmatched_fails G among B s (j % w) c hs ht hc
                  (subst (λ (p : ℕ). T (at (denoted n w k) p)) (sym same) z)
                  (subst (λ (b : Bool). T (not b)) (fine_matched left right k s (j % w) c hs ht hc) q))))
                  (W.gone (j % w) ht (subst (λ (i : ℕ). T (set_at w k i (j % w))) e y))
              | no e ↦ inl ((at_table (n * w) (λ p. set_at w k' (p / w) (p % w)) j).1
                  (l, subst T (sym (other_rows (j / w) (j % w) e (omega arith))) y))
            ]

    pub visit_shrunk : Shrunk lm rm n w steps k k'
    visit_shrunk = record {
      sized = W.sized;
      past = λ i h. W.outside i (inr (omega (arith, row_end n (bytes_for w) s hs)));
      spare = λ x t hx l h. elim (ℕ_discrete x s) [
        | yes q ↦ subst (λ (y : ℕ). set_at w k' y t ≡ set_at w k y t) (sym q) (W.spare t l h)
        | no q ↦ other_rows x t q h
      ];
      between = visit_between;
    }

pub shrunk_none : {lm rm : List ℕ} {n w steps : ℕ} {k : List ℕ} → Shrunk lm rm n w steps k k
shrunk_none = record {
  sized = refl;
  past = λ i h. refl;
  spare = λ s t hs l h. refl;
  between = λ A L R G X among B. B;
}

shrunk_both : {lm rm : List ℕ} {n w steps : ℕ} {k k₁ k₂ : List ℕ} → Shrunk lm rm n w steps k k₁
    → Shrunk lm rm n w steps k₁ k₂ → Shrunk lm rm n w steps k k₂
shrunk_both D E = record {
  sized = E.sized ∙ D.sized;
  past = λ i h. E.past i h ∙ D.past i h;
  spare = λ s t hs l h. E.spare s t hs l h ∙ D.spare s t hs l h;
  between = λ A L R G X among B. E.between A L R G X among (D.between A L R G X among B);
}

pub moved_none : {lm rm : List ℕ} {n w steps : ℕ} {k seen stamps : List ℕ} {p : Progress}
    → State lm rm n w steps k seen stamps p → Moved lm rm n w steps k k seen stamps p p
moved_none S = record { state = S; shrunk = shrunk_none; rises = omega arith }

pub moved_both : {lm rm : List ℕ} {n w steps : ℕ} {k k₁ k₂ seen₁ seen₂ stamps₁ stamps₂ : List ℕ} {p p₁ p₂ : Progress}
    → Moved lm rm n w steps k k₁ seen₁ stamps₁ p p₁ → Moved lm rm n w steps k₁ k₂ seen₂ stamps₂ p₁ p₂
    → Moved lm rm n w steps k k₂ seen₂ stamps₂ p p₂
moved_both M D = record {
  state = D.state;
  shrunk = shrunk_both M.shrunk D.shrunk;
  rises = omega (arith, M.rises, D.rises);
}

-- a row that is quiet is left alone
pub turn_quiet : {lm rm : List ℕ} {n w steps s : ℕ} {k seen stamps : List ℕ} {p : Progress}
    → State lm rm n w steps k seen stamps p → Quiet lm steps stamps s (get_or seen s 0)
    → Turned lm rm n w steps s k k seen seen stamps stamps p p
turn_quiet S q = record { moved = moved_none S; still = λ e. (refl, (q, λ x l. refl)) }

-- row s is looked at: it is seen at the time
module _ {lm rm : List ℕ} {n w steps s : ℕ} {k k' seen stamps : List ℕ} {p : Progress} {lost : ℕ}
    (left : Bounded n steps lm) (right : Bounded w steps rm) (wide : 0 < w) (hs : s < n) (room : n ≤ length seen)
    (W : Visited lm rm stamps n w steps s (get_or seen s 0) k k' lost) (S : State lm rm n w steps k seen stamps p) where
  abbrev seen' : List ℕ
  seen' = set seen s p.time

  seen_here : get_or seen' s 0 ≡ p.time
  seen_here = get_or-set_same seen s p.time 0 (omega arith)

  seen_else : (x : ℕ) → x ≢ s → get_or seen' x 0 ≡ get_or seen x 0
  seen_else x e = get_or-set_other seen s x p.time 0 e

  seen_old : (x : ℕ) → x < n → get_or seen' x 0 ≤ p.time
  seen_old x h = elim (ℕ_discrete x s) [
    | yes e ↦ rw (e, seen_here) (omega arith)
    | no e ↦ rw (seen_else x e) (S.looked x h)
  ]

  -- the pairs that are left passed every step as the table was
  passed : (c : ℕ) → c < steps → (t : ℕ) → t < w → T (set_at w k' s t) → T (fine lm rm w steps k s c t)
  passed c hc t ht x =
      let (y, all) = W.kept t ht x in
      ⊎_elim (λ l. S.clean s c hs hc l t ht y) (λ z. z) (all c hc)

  -- nothing taken out
  pub turn_still : lost ≡ 0 → Turned lm rm n w steps s k k' seen seen' stamps stamps p p
  turn_still e = record {
    moved = subst (λ (x : List ℕ). Moved lm rm n w steps k x seen' stamps p p) (sym (W.still e))
        (moved_none (record {
          clean = λ x c hx hc l. elim (ℕ_discrete x s) [
            | yes q ↦ subst (λ (y : ℕ). StepFine lm rm w steps k y c) (sym q)
                (λ t ht z. passed c hc t ht (subst (λ (y : List ℕ). T (set_at w y s t)) (sym (W.still e)) z))
            | no q ↦ S.clean x c hx hc (subst (λ (y : ℕ). get_or stamps (goes lm steps c x) 0 ≤ y) (seen_else x q) l)
          ];
          looked = seen_old;
          changed = S.changed;
          counted = S.counted;
          falls = S.falls;
        }));
    still = λ z. (
      refl,
      (
        λ c hc. ⊎_elim inl (λ u. inr (rw seen_here (S.changed (goes lm steps c s) u))) (left.inside s c hs hc),
        seen_else,
      ),
    );
  }

  -- something taken out: the row is stamped with a later time v
  module _ (wider : n ≤ length stamps) (v : ℕ) (later : p.time < v) where
    abbrev stamps' : List ℕ
    stamps' = set stamps s v

    stamp_here : get_or stamps' s 0 ≡ v
    stamp_here = get_or-set_same stamps s v 0 (omega arith)

    stamp_else : (u : ℕ) → u ≢ s → get_or stamps' u 0 ≡ get_or stamps u 0
    stamp_else u e = get_or-set_other stamps s u v 0 e

    -- a row that did not lead to s: what was fine is fine
    stays_fine : (x c t : ℕ) → x < n → c < steps → t < w → goes lm steps c x ≢ s → T (fine lm rm w steps k x c t)
        → T (fine lm rm w steps k' x c t)
    stays_fine x c t hx hc ht e z = subst T (sym (fine_same left right k k' x t c hx ht hc
        (λ v l h. other_rows hs W (goes lm steps c x) v e (omega arith)))) z

    never : (x c : ℕ) → x < n → goes lm steps c x ≡ s → get_or stamps' (goes lm steps c x) 0 ≤ get_or seen' x 0 → ⊥
    never x c hx q l =
        let a : get_or stamps' (goes lm steps c x) 0 ≡ v = ap (λ (u : ℕ). get_or stamps' u 0) q ∙ stamp_here in
        omega (arith, seen_old x hx)

    older : (x c : ℕ) → x ≢ s → goes lm steps c x ≢ s → get_or stamps' (goes lm steps c x) 0 ≤ get_or seen' x 0
        → get_or stamps (goes lm steps c x) 0 ≤ get_or seen x 0
    older x c z q l = omega (arith, stamp_else (goes lm steps c x) q, seen_else x z)

    state_fewer : {q : Progress} → v ≤ q.time → q.time ≤ p.time + 1 → lost + q.count ≡ p.count → lost ≢ 0
        → State lm rm n w steps k' seen' stamps' q
    state_fewer stamped next fewer e = record {
      clean = λ x c hx hc l. elim (ℕ_discrete (goes lm steps c x) s) [
        | yes q ↦ absurd (never x c hx q l)
        | no q ↦ elim (ℕ_discrete x s) [
          | yes z ↦ subst (λ (y : ℕ). StepFine lm rm w steps k' y c) (sym z)
              (λ t ht y. stays_fine s c t hs hc ht (subst (λ (v : ℕ). goes lm steps c v ≢ s) z q) (passed c hc t ht y))
          | no z ↦ λ t ht y. stays_fine x c t hx hc ht q
              (S.clean x c hx hc (older x c z q l) t ht (subst T (other_rows hs W x t z (omega arith)) y))
        ]
      ];
      looked = λ x hx. omega (arith, seen_old x hx);
      changed = λ u hu. elim (ℕ_discrete u s) [
        | yes q ↦ rw (q, stamp_here) stamped
        | no q ↦ omega (arith, stamp_else u q, S.changed u hu)
      ];
      counted = omega (arith, S.counted, visit_counted hs W);
      falls = omega (arith, S.falls, some_lost lost e);
    }
      where
        some_lost : (x : ℕ) → x ≢ 0 → 1 ≤ x
        some_lost zero z = absurd (z refl)
        some_lost (suc x) z = omega arith

    pub turn_fewer : {q : Progress} → v ≤ q.time → q.time ≤ p.time + 1 → lost + q.count ≡ p.count → lost ≢ 0
        → Turned lm rm n w steps s k k' seen seen' stamps stamps' p q
    turn_fewer stamped next fewer e = record {
      moved = record {
        state = state_fewer stamped next fewer e;
        shrunk = visit_shrunk hs W left right wide;
        rises = omega arith;
      };
      still = λ z. absurd (omega arith);
    }

pub lost_most : {lm rm stamps seen₁ stamps₁ : List ℕ} {n w steps s seen : ℕ} {k k' : List ℕ} {lost : ℕ} {p : Progress}
    → s < n → Visited lm rm stamps n w steps s seen k k' lost → State lm rm n w steps k seen₁ stamps₁ p
    → lost ≤ p.count
lost_most hs W S = omega (arith, S.counted, visit_counted hs W)

-- times are small
pub time_few : {lm rm : List ℕ} {n w steps : ℕ} {k seen stamps : List ℕ} {p : Progress} → Bounded n steps lm
    → Bounded w steps rm → State lm rm n w steps k seen stamps p → p.time ≤ 1 + pair_limit
time_few {n = n} {w = w} left right S = omega (arith, S.falls, pairs_few n w left.few right.few)

-- the sweep, one row more
pub sweep_start : {lm rm : List ℕ} {n w steps : ℕ} {k seen stamps : List ℕ} {p : Progress}
    → State lm rm n w steps k seen stamps p → Swept lm rm n w steps n k k seen stamps p p
sweep_start S = record { moved = moved_none S; still = λ e x l h. absurd (omega arith) }

pub sweep_more : {lm rm : List ℕ} {n w steps : ℕ} (s : ℕ) {k k₁ k₂ seen₁ seen₂ stamps₁ stamps₂ : List ℕ}
    {p p₁ p₂ : Progress} → 0 < s → Swept lm rm n w steps s k k₁ seen₁ stamps₁ p p₁
    → Turned lm rm n w steps (s - 1) k₁ k₂ seen₁ seen₂ stamps₁ stamps₂ p₁ p₂
    → Swept lm rm n w steps (s - 1) k k₂ seen₂ stamps₂ p p₂
sweep_more {lm} {rm} {n} {w} {steps} s {k} {k₁} {k₂} {seen₁} {seen₂} {stamps₁} {stamps₂} {p} {p₁} {p₂} h M D = record {
  moved = moved_both M.moved D.moved;
  still = λ e.
      let a : p₁.time ≡ p.time = omega (arith, M.moved.rises, D.moved.rises) in
      let b : p₂.time ≡ p₁.time = omega (arith, M.moved.rises, D.moved.rises) in
      let old = M.still a in
      let (f, (q, g)) = D.still b in
      λ x l hx. elim (ℕ_discrete x (s - 1)) [
        | yes z ↦ subst (λ (y : ℕ). Quiet lm steps stamps₂ y (get_or seen₂ y 0)) (sym z) q
        | no z ↦ subst (λ (y : ℕ). Quiet lm steps stamps₂ x y) (sym (g x z))
            (subst (λ (y : List ℕ). Quiet lm steps y x (get_or seen₁ x 0)) (sym f) (old x (above x l z) hx))
      ];
}
  where
    above : (x : ℕ) → s - 1 ≤ x → x ≢ s - 1 → s ≤ x
    above x l z = ⊎_elim (λ a. absurd (z (omega arith))) (λ a. a) (less x s)

-- no slice changes its length
pub record Lengths (k k' seen seen' stamps stamps' row row' : List ℕ) : Type 0 where
  pub raster : length k' ≡ length k
  pub looked : length seen' ≡ length seen
  pub changed : length stamps' ≡ length stamps
  pub row_same : length row' ≡ length row

pub lengths_none : {k seen stamps row : List ℕ} → Lengths k k seen seen stamps stamps row row
lengths_none = record { raster = refl; looked = refl; changed = refl; row_same = refl }

pub lengths_more : {k k₁ k₂ seen seen₁ seen₂ stamps stamps₁ stamps₂ row row₁ row₂ : List ℕ}
    → Lengths k k₁ seen seen₁ stamps stamps₁ row row₁ → Lengths k₁ k₂ seen₁ seen₂ stamps₁ stamps₂ row₁ row₂
    → Lengths k k₂ seen seen₂ stamps stamps₂ row row₂
lengths_more X Y = record {
  raster = Y.raster ∙ X.raster;
  looked = Y.looked ∙ X.looked;
  changed = Y.changed ∙ X.changed;
  row_same = Y.row_same ∙ X.row_same;
}

pub rooms_kept : {n w : ℕ} {k k' seen seen' stamps stamps' row row' : List ℕ} → Rooms n w k seen stamps row
    → Lengths k k' seen seen' stamps stamps' row row' → Rooms n w k' seen' stamps' row'
rooms_kept X E = record {
  wide = X.wide;
  raster = omega (arith, X.raster, E.raster);
  looked = omega (arith, X.looked, E.looked);
  changed = omega (arith, X.changed, E.changed);
  row_room = omega (arith, X.row_room, E.row_same);
}
