-- The scan of slices finds what specs/Judged.antt finds in a table's pairs (SPECIFICATION 11.5), and it passes exactly
-- where the theory's check does.
use Rattle.std.specs.Prelude.{◌≡◌, refl, ◌↔◌, ◌⊎◌, Bool, true, false, ◌&&◌, cond, List, ℕ, zero, suc, ◌+◌, ◌*◌, ◌≤◌, ◌<◌, get_or, Result, Ok, Err, ⊤}
use Rattle.std.proofs.Math.Path.{sym, subst, ap}
use Rattle.std.proofs.Common.{◌∙◌, inl, inr, arith, T_not, lt-ltb, le-ltb}
use Rattle.std.proofs.Math.Logic.{⊎_elim}
use Rattle.std.proofs.Math.Bool.{not}
use Rattle.std.proofs.Math.Option.{Option, none, some}
use Rattle.std.proofs.Math.Decide.{ℕ_discrete}
use Rattle.std.proofs.Math.Dec.{T}
use Rattle.systems.specs.Bools.{T_dec, all_elim, all_intro, and_T, and_both, least_passes, none_some}
use Rattle.systems.specs.Tests.{all, stays, lands, least, ◌⇒◌}
use Rattle.systems.specs.Definitions.{Signature}
use Rattle.systems.specs.Finite.{FiniteSystem, State, safe, pruned, step_ok, input_ok, own_ok, pair_ok, entry_ok, check}
use Rattle.systems.proofs.Safe.{safe_state, safe_keeps}
use Rattle.systems.proofs.Departure.{pruned_intro}
use Rattle.bitmaps.specs.BitLaws.{less}
use Rattle.bitmaps.specs.PackedLaws.{packed_bit}
use Rattle.move_tables.specs.Moves.{decode}
use Rattle.tables_rows.specs.TableLaws.{table_at}
use Rattle.move_tables.specs.declared.Sides.{Sides}
use Rattle.tables_rows.specs.Given.{Systems}
use Rattle.tables_rows.specs.Raster.{set_at}
use Rattle.tables_check.specs.Fault.{step, step_fault, row_from, table_from, picked}
use Rattle.tables_cut.specs.Rule.{ok_of}
use Rattle.tables_check.specs.Scan.{fails_at, first_bad, fault_at}
use Rattle.tables_check.specs.Judged.{breaks, least_broken, pair_fault, pairs_judged, NoFault, LowestFault}
use Rattle.tables_check.specs.declared.Fault.{Fault}
use Rattle.tables_check.specs.declared.Fault.TheVariants.{NotAllowed, Broken}
use Rattle.tables_check.specs.declared.FailedPair.{FailedPair}

and_true : (b : Bool) → (b && true) ≡ b
and_true true = refl
and_true false = refl

-- the two rules on the moves of a pair, where an input is possible on both sides, come to one test
same_test : (X : ℕ → ℕ → Bool) (m o : Option ℕ) (i : Bool) → (i ≡ true → (u : ℕ) × (v : ℕ) × (m ≡ some u)
    × (o ≡ some v))
    → ((i ⇒ stays (λ v. lands (λ u. X u v) m) o) && (not i ⇒ stays (λ u. lands (X u) o) m))
    ≡ stays (λ u. lands (X u) o) m
unfolding ◌⇒◌ stays lands
same_test X m o false h = refl
same_test X none o true h = let (u, v, a, b) = h refl in none_some u a
same_test X (some x) none true h = let (u, v, a, b) = h refl in none_some v b
same_test X (some x) (some y) true h = and_true (X x y)

least_same : (p q : ℕ → Bool) (i n : ℕ) → ((j : ℕ) → i ≤ j → j < i + n → p j ≡ q j) → least p i n ≡ least q i n
unfolding least
least_same p q i zero e = refl
least_same p q i (suc n) e =
    ap (λ (a : Bool). elim a [ true ↦ i | false ↦ least p (suc i) n ]) (e i (omega arith) (omega arith))
    ∙ go (q i) (least_same p q (suc i) n (λ j a b. e j (omega arith) (omega arith)))
  where
    go : (b : Bool) → least p (suc i) n ≡ least q (suc i) n
        → ◌≡◌ {A = ℕ} (elim b [ true ↦ i | false ↦ least p (suc i) n ])
        (elim b [ true ↦ i | false ↦ least q (suc i) n ])
    go true h = refl
    go false h = h

-- a least number below the bound passes
least_found : (p : ℕ → Bool) (i n : ℕ) → least p i n < i + n → T (p (least p i n))
unfolding least
least_found p i zero h = absurd (omega arith)
least_found p i (suc n) h = go (p i) refl h (λ l. least_found p (suc i) n (omega arith))
  where
    go : (b : Bool) → p i ≡ b → (elim b [ true ↦ i | false ↦ least p (suc i) n ]) < i + suc n
        → (least p (suc i) n < i + suc n → T (p (least p (suc i) n)))
        → T (p (elim b [ true ↦ i | false ↦ least p (suc i) n ]))
    go true e l ih = subst T (sym e) tt
    go false e l ih = ih l

-- the least step that fails, if one does, and each step is fine if none does
module _ (lm rm : List ℕ) (w steps : ℕ) (k : List ℕ) (s t : ℕ) where
  pub first_bad_fails : first_bad lm rm w steps k s t < steps
      → T (fails_at lm rm w steps k s t (first_bad lm rm w steps k s t))
  unfolding first_bad
  first_bad_fails h = least_found (fails_at lm rm w steps k s t) 0 steps (omega arith)

  pub first_bad_none : steps ≤ first_bad lm rm w steps k s t → (c : ℕ) → c < steps
      → T (ok_of w k (get_or lm (s * steps + c) 0) (get_or rm (t * steps + c) 0))
  unfolding first_bad fails_at
  first_bad_none h c l = ⊎_elim (λ a. a) (λ b. absurd
      (omega (arith, (least_passes (fails_at lm rm w steps k s t) 0 steps c (omega arith) (omega arith) b).1)))
      (T_dec (ok_of w k (get_or lm (s * steps + c) 0) (get_or rm (t * steps + c) 0)))

not_fine : (f : Fault) → ◌≡◌ {A = Result ⊤ Fault} (Err f) (Ok tt) → ⊥
not_fine c e = let z : ◌≡◌ {A = ℕ} 0 1 = cc in omega arith

-- no step breaks a rule exactly if each is fine
step_fine : (p : ℕ → Bool) (n : ℕ) → step_fault n (least (λ c. not (p c)) 0 n) ≡ Ok tt ↔ T (all n p)
unfolding step_fault
step_fine p n = (forth, back)
  where
    m : ℕ
    m = least (λ c. not (p c)) 0 n

    forth : step_fault n m ≡ Ok tt → T (all n p)
    forth e = all_intro n p (λ c h. ⊎_elim (λ t. t) (λ t. absurd (bad c h t)) (T_dec (p c)))
      where
        bad : (c : ℕ) → c < n → T (not (p c)) → ⊥
        bad c h t =
            let below : m < n = omega (arith, (least_passes (λ c. not (p c)) 0 n c (omega arith) (omega arith) t).1) in
            not_fine (Broken (step m)) (sym (ap (λ (b : Bool). cond {A = Result ⊤ Fault} b (Err (Broken (step m)))
            (Ok tt)) (lt-ltb m n below)) ∙ e)

    back : T (all n p) → step_fault n m ≡ Ok tt
    back a = ⊎_elim (λ h. absurd (T_not (p m) (least_found (λ c. not (p c)) 0 n (omega arith)) (all_elim n p a m h)))
        (λ h. rw (le-ltb m n h)) (less m n)

-- one row: no pair of it fails and the later rows decide, or its first pair that fails does
data Row (f : ℕ → ℕ → Result ⊤ Fault) (s m t : ℕ) (rest x : Result ⊤ FailedPair) : Type 0 where
  clear : x ≡ rest → ((j : ℕ) → t ≤ j → j < t + m → f s j ≡ Ok tt) → Row f s m t rest x
  stopped : (j : ℕ) → t ≤ j → j < t + m → (f s j ≡ Ok tt → ⊥) → ((i : ℕ) → t ≤ i → i < j → f s i ≡ Ok tt)
      → x ≡ picked (f s j) s j (Ok tt) → Row f s m t rest x

-- m rows from s on, the same
data Rows (f : ℕ → ℕ → Result ⊤ Fault) (w m s : ℕ) (x : Result ⊤ FailedPair) : Type 0 where
  passed : x ≡ Ok tt → ((i j : ℕ) → s ≤ i → i < s + m → j < w → f i j ≡ Ok tt) → Rows f w m s x
  failed : (i j : ℕ) → s ≤ i → i < s + m → j < w → (f i j ≡ Ok tt → ⊥)
      → ((a b : ℕ) → s ≤ a → a < i → b < w → f a b ≡ Ok tt) → ((b : ℕ) → b < j → f i b ≡ Ok tt)
      → x ≡ picked (f i j) i j (Ok tt) → Rows f w m s x

fine_or_not : (f : Result ⊤ Fault) → (f ≡ Ok tt) ⊎ (f ≡ Ok tt → ⊥)
fine_or_not (Ok fine) = inl refl
fine_or_not (Err fault) = inr (not_fine fault)

picked_rest : (f : Result ⊤ Fault) (s t : ℕ) (rest : Result ⊤ FailedPair) → f ≡ Ok tt → picked f s t rest ≡ rest
unfolding picked
picked_rest f s t rest e = rw e

picked_any : (f : Result ⊤ Fault) (s t : ℕ) (rest : Result ⊤ FailedPair) → (f ≡ Ok tt → ⊥) → picked f s t rest ≡ picked f s t (Ok tt)
unfolding picked
picked_any (Ok fine) s t rest n = absurd (n refl)
picked_any (Err fault) s t rest n = refl

below_or_at : {P : ℕ → Type 0} (t : ℕ) → P t → ((i : ℕ) → t + 1 ≤ i → P i) → (i : ℕ) → t ≤ i → P i
below_or_at {P} t here later i h =
    elim (ℕ_discrete i t) [
      | yes e ↦ subst P (sym e) here
      | no e ↦ later i
          (⊎_elim (λ l. absurd (e (omega arith))) (λ l. l) (less i (t + 1)))
    ]

row_told : (f : ℕ → ℕ → Result ⊤ Fault) (s m t : ℕ) (rest : Result ⊤ FailedPair) → Row f s m t rest (row_from f s m t rest)
unfolding row_from
row_told f s zero t rest = clear refl (λ j a b. absurd (omega arith))
row_told f s (suc m) t rest = ⊎_elim {C =
    Row f s (suc m) t rest (picked (f s t) s t (row_from f s m (t + 1) rest))}
    (λ e. fine e (row_told f s m (t + 1) rest))
    (λ n. stopped t (omega arith) (omega arith) n (λ i a b. absurd (omega arith))
    (picked_any (f s t) s t (row_from f s m (t + 1) rest) n)) (fine_or_not (f s t))
  where
    fine : f s t ≡ Ok tt → Row f s m (t + 1) rest (row_from f s m (t + 1) rest)
        → Row f s (suc m) t rest (picked (f s t) s t (row_from f s m (t + 1) rest))
    fine e (clear x all) = clear (picked_rest (f s t) s t (row_from f s m (t + 1) rest) e ∙ x)
        (λ j a b. below_or_at {P = λ i. i < t + suc m → f s i ≡ Ok tt} t (λ q. e) (λ i h q. all i h (omega arith)) j a
        b)
    fine e (stopped j a b n all x) =
        stopped j (omega arith) (omega arith) n
        (λ i h l. below_or_at {P = λ i. i < j → f s i ≡ Ok tt} t (λ q. e) (λ i h q. all i h q) i h l)
        (picked_rest (f s t) s t (row_from f s m (t + 1) rest) e ∙ x)

rows_told : (f : ℕ → ℕ → Result ⊤ Fault) (w m s : ℕ) → Rows f w m s (table_from f w m s)
unfolding table_from
rows_told f w zero s = passed refl (λ i j a b c. absurd (omega arith))
rows_told f w (suc m) s = go (row_told f s w 0 (table_from f w m (s + 1))) (rows_told f w m (s + 1))
  where
    rest : Result ⊤ FailedPair
    rest = table_from f w m (s + 1)

    go : Row f s w 0 rest (row_from f s w 0 rest) → Rows f w m (s + 1) rest → Rows f w (suc m) s (row_from f s w 0 rest)
    go (clear x row) (passed y all) =
        passed (x ∙ y) (λ i j a b c. below_or_at {P =
        λ i. i < s + suc m → f i j ≡ Ok tt} s (λ q. row j (omega arith) (omega arith))
        (λ i h q. all i j h (omega arith) c) i a b)
    go (clear x row) (failed i j a b c n rows columns y) =
        failed i j (omega arith) (omega arith) c n
        (λ p q h l k. below_or_at {P = λ p. p < i → f p q ≡ Ok tt} s (λ z. row q (omega arith) (omega arith))
        (λ p h z. rows p q h z k) p h l) columns (x ∙ y)
    go (stopped j a b n row x) later =
        failed s j (omega arith) (omega arith) (omega arith) n (λ p q h l k. absurd (omega arith))
        (λ q l. row q (omega arith) l) x

-- the scan passes and no pair fails, or it names the lowest pair that fails, by row, then column
pub scan_told : (f : ℕ → ℕ → Result ⊤ Fault) (n w : ℕ)
    → ((table_from f w n 0 ≡ Ok tt) × NoFault f n w) ⊎ LowestFault f n w (table_from f w n 0)
scan_told f n w = go (rows_told f w n 0)
  where
    go : Rows f w n 0 (table_from f w n 0)
        → ((table_from f w n 0 ≡ Ok tt) × NoFault f n w) ⊎ LowestFault f n w (table_from f w n 0)
    go (passed x all) = inl (x, λ s t a b. all s t (omega arith) (omega arith) b)
    go (failed i j a b c n rows columns x) = inr (record {
      s = i;
      t = j;
      row_in = omega arith;
      column_in = c;
      fails = n;
      earlier_rows = λ p q l k. rows p q (omega arith) l k;
      earlier_columns = columns;
      named = x;
    })

picked_stops : (f : Result ⊤ Fault) (s t : ℕ) → (f ≡ Ok tt → ⊥) → picked f s t (Ok tt) ≡ Ok tt → ⊥
unfolding picked
picked_stops (Ok fine) s t n e = n refl
picked_stops (Err fault) s t n e = let z : ◌≡◌ {A = ℕ} 0 1 = cc in omega arith

-- the scan passes exactly if no pair fails
pub scan_passes : (f : ℕ → ℕ → Result ⊤ Fault) (n w : ℕ) → (table_from f w n 0 ≡ Ok tt) ↔ NoFault f n w
scan_passes f n w = (
  λ e. ⊎_elim (λ p. p.1) (λ low. absurd
      (picked_stops (f low.s low.t) low.s low.t low.fails (sym low.named ∙ e))) (scan_told f n w),
  λ all. ⊎_elim (λ p. p.0) (λ low. absurd (low.fails (all low.s low.t low.row_in low.column_in)))
      (scan_told f n w),
)

-- the fault of a pair and the test of it
module _ {A : Signature} (L R : FiniteSystem A) (X : ℕ → ℕ → Bool) where
  pub pair_fine : (s t : ℕ) → pair_fault L R X s t ≡ Ok tt ↔ T (entry_ok L R X s t)
  unfolding pair_fault entry_ok least_broken breaks pair_ok ◌⇒◌
  pair_fine s t = go (X s t) (safe L s && R.holds t) (step_fine (step_ok A (pruned L) R.next X s t)
      (suc A.channels))
    where
      broken : Result ⊤ Fault
      broken = step_fault (suc A.channels) (least (λ c. not (step_ok A (pruned L) R.next X s t c)) 0
          (suc A.channels))

      go : (x y : Bool) → (broken ≡ Ok tt ↔ T (all (suc A.channels) (step_ok A (pruned L) R.next X s t)))
          → cond x (cond y broken (Err NotAllowed)) (Ok tt) ≡ Ok tt ↔ T
          (x ⇒ y && all (suc A.channels) (step_ok A (pruned L) R.next X s t))
      go false y f = (λ e. tt, λ t. refl)
      go true false f = (λ e. absurd (not_fine NotAllowed e), λ t. absurd t)
      go true true f = f

  -- the scan passes exactly if every pair that is set has a safe s, a t whose invariant is true, and meets the rules
  pub judged_passes : (pairs_judged L R X ≡ Ok tt) ↔ ((s t : ℕ) → s < L.size → t < R.size → T (entry_ok L R X s t))
  unfolding pairs_judged
  judged_passes = (
    λ e s t a b. (pair_fine s t).0 ((scan_passes (pair_fault L R X) L.size R.size).0 e s t a b),
    λ all. (scan_passes (pair_fault L R X) L.size R.size).1 (λ s t a b. (pair_fine s t).1 (all s t a b)),
  )

  -- the theory's check: the start pair is set, and the scan passes
  pub check_judged : T (check L R X) ↔ (T (X L.start R.start) × (pairs_judged L R X ≡ Ok tt))
  unfolding check
  check_judged = (
    λ h.
        let (a, b) = and_both (X L.start R.start) (all L.size (λ s. all R.size (entry_ok L R X s))) h in (
          a,
          judged_passes.1 (λ s t l k. all_elim R.size (entry_ok L R X s)
              (all_elim L.size (λ s. all R.size (entry_ok L R X s)) b s l) t k),
        ),
    λ (a, e). and_T (X L.start R.start) (all L.size (λ s. all R.size (entry_ok L R X s))) a
        (all_intro L.size (λ s. all R.size (entry_ok L R X s))
        (λ s l. all_intro R.size (entry_ok L R X s) (λ t k. judged_passes.0 e s t l k))),
  )

  -- the scan's answer otherwise: the lowest pair that fails, with its own fault
  pub judged_lowest : ((pairs_judged L R X ≡ Ok tt) × NoFault (pair_fault L R X) L.size R.size) ⊎ LowestFault
      (pair_fault L R X) L.size R.size (pairs_judged L R X)
  unfolding pairs_judged
  judged_lowest = scan_told (pair_fault L R X) L.size R.size

  -- at a pair, the rules for inputs and for the left's own steps come to one test
  pub step_same : (s t c : ℕ) → T (safe L s) → State R t
      → step_ok A (pruned L) R.next X s t c ≡ stays (λ u. lands (X u) (R.next t c)) (pruned L s c)
  unfolding step_ok input_ok own_ok
  step_same s t c h k = same_test X (pruned L s c) (R.next t c) (A.input c) (λ i.
      let ti : T (A.input c) = subst T (sym i) tt in
      let (v, e) = R.enabled t c k ti in
      let (u, f) = L.enabled s c (safe_state L s h) ti in
      (u, v, pruned_intro L s c u f ((safe_keeps L s h).inputs c u ti f), e))

conds : (x y z : Bool) (a b : Result ⊤ Fault) → (T y → T z → a ≡ b)
    → cond x (cond y (cond z a (Err NotAllowed)) (Err NotAllowed)) (Ok tt)
    ≡ cond x (cond (y && z) b (Err NotAllowed)) (Ok tt)
conds false y z a b e = refl
conds true false z a b e = refl
conds true true false a b e = refl
conds true true true a b e = e tt tt

row_same : (f g : ℕ → ℕ → Result ⊤ Fault) (s m t : ℕ) (x y : Result ⊤ FailedPair) → x ≡ y → ((i : ℕ) → t ≤ i → i < t + m → f s i ≡ g s i)
    → row_from f s m t x ≡ row_from g s m t y
unfolding row_from
row_same f g s zero t x y e h = e
row_same f g s (suc m) t x y e h =
    rw (h t (omega arith) (omega arith), row_same f g s m (t + 1) x y e (λ i a b. h i (omega arith) (omega arith)))

table_same : (f g : ℕ → ℕ → Result ⊤ Fault) (w m s : ℕ) → ((i t : ℕ) → s ≤ i → i < s + m → t < w → f i t ≡ g i t)
    → table_from f w m s ≡ table_from g w m s
unfolding table_from
table_same f g w zero s h = refl
table_same f g w (suc m) s h =
    row_same f g s w 0 (table_from f w m (s + 1)) (table_from g w m (s + 1))
    (table_same f g w m (s + 1) (λ i t a b c. h i t (omega arith) (omega arith) c))
    (λ i a b. h s i (omega arith) (omega arith) (omega arith))

-- the scan of the slices gives what is found in the table's pairs (SPECIFICATION 11.5)
module _ {A : Signature} (L R : FiniteSystem A) (k : List ℕ) {keep holds lm rm : List ℕ} {sides : Sides}
    (G : Systems A L R keep holds lm rm sides) where
  abbrev n : ℕ
  n = sides.left_states

  abbrev w : ℕ
  w = sides.right_states

  abbrev steps : ℕ
  steps = sides.steps

  fails_same : (s t : ℕ) → s < n → t < w → T (safe L s) → T (R.holds t) → (c : ℕ) → c < steps
      → fails_at lm rm w steps k s t c ≡ breaks L R (set_at w k) s t c
  unfolding fails_at breaks ok_of
  fails_same s t hs ht a b c hc = ap not
      (ap (λ (o : Option ℕ). stays (λ x. lands (set_at w k x) (decode (get_or rm (t * steps + c) 0))) o)
      (sym (G.moves.left.move s c hs hc))
      ∙ ap (λ (o : Option ℕ). stays (λ x. lands (set_at w k x) o) (pruned L s c))
      (sym (G.moves.right.move t c ht hc))
      ∙ sym (step_same L R (set_at w k) s t c a (omega (arith, G.moves.right_size), b)))

  fault_same : (s t : ℕ) → s < n → t < w → fault_at lm rm keep holds w steps k s t ≡ pair_fault L R (set_at w k) s t
  unfolding fault_at pair_fault first_bad least_broken
  fault_same s t hs ht = rw (
    packed_bit G.safe_bits s hs,
    packed_bit G.true_bits t ht
        ∙ table_at w R.holds t ht,
  ) (conds (set_at w k s t) (safe L s) (R.holds t) _ _ (λ a b.
      let e : least (fails_at lm rm w steps k s t) 0 steps ≡ least (breaks L R (set_at w k) s t) 0 steps =
      least_same (fails_at lm rm w steps k s t) (breaks L R (set_at w k) s t) 0 steps
      (λ j x y. fails_same s t hs ht a b j (omega arith)) in
      rw e (ap (λ (m : ℕ). step_fault m (least (breaks L R (set_at w k) s t) 0 m)) G.moves.known)))

  pub judged_is : table_from (fault_at lm rm keep holds w steps k) w n 0 ≡ pairs_judged L R (set_at w k)
  unfolding pairs_judged
  judged_is =
      table_same (fault_at lm rm keep holds w steps k) (pair_fault L R (set_at w k)) w n 0
      (λ i t a b c. fault_same i t (omega arith) c)
      ∙ ap (λ (m : ℕ). table_from (pair_fault L R (set_at w k)) w m 0) (sym G.moves.left_size)
      ∙ ap (λ (m : ℕ). table_from (pair_fault L R (set_at w k)) m L.size 0) (sym G.moves.right_size)
