-- Where the removal starts: after the first cut.
use mathlib.Core.Path.{◌≡◌, sym, subst, ap, ◌∙◌}
use mathlib.Core.Logic.{◌⊎◌, inl, inr, ⊎_elim}
use mathlib.Core.Bool.{Bool, false, not}
use mathlib.Core.Option.{some}
use mathlib.Core.List.{List}
use Prim.Native.Nat.{ℕ, ◌+◌, ◌*◌, ◌/◌, ◌%◌, ◌<◌}
use native.Mathlib.Nat.{div-add-mod', mod-lt, div-lt_iff_lt-mul}
use native.Mathlib.Omega.{arith}
use lib.Dec.{T, T_not}
use lib.ListN.{length, get_or, get_or-eq_default}
use Rattle.systems.specs.Bools.{T_dec, stays_elim, stays_intro, lands_elim, lands_intro}
use Rattle.systems.specs.Tests.{at, lands}
use Rattle.systems.proofs.Sieve.{Between, between_start, length_table}
use Rattle.systems.specs.Definitions.{Signature}
use Rattle.systems.specs.Finite.{FiniteSystem, pairs}
use Rattle.systems.proofs.Refinement.{pair_rule, pairs_elim, pairs_intro}
use Rattle.bitmaps.specs.Bits.{bit_at}
use Rattle.bitmaps.specs.BitLaws.{less}
use Rattle.bitmaps.specs.PackedLaws.{packed_bit}
use Rattle.move_tables.specs.declared.Sides.{Sides}
use Rattle.move_tables.specs.Moves.{Bounded, decode, no_move}
use Rattle.move_tables.specs.MoveLaws.{decode_some, decode_inside}
use Rattle.tables_rows.specs.Raster.{set_at, denoted}
use Rattle.tables_rows.specs.Given.{Systems}
use Rattle.tables_rows.specs.TableLaws.{table_at}
use Rattle.tables_count.proofs.PassingLaws.{pairs_le}
use Rattle.tables_runs.specs.Runs.{goes, landing}
use Rattle.tables_cut.specs.Rule.{ok_of, fine}
use Rattle.tables_first.specs.First.{First}
use Rattle.tables_settle.specs.declared.Progress.{Progress}
use Rattle.tables_settle.specs.State.{State}
use Rattle.tables_settle.specs.RemovalLaws.{matched, between_many, denoted_at, denoted_long, unmatched_fails, fine_nowhere}

-- the state of the removal: a row that has lost nothing has every pair that a move into it needs
module _ {lm rm keep holds : List ℕ} {n w steps : ℕ} {d k stamps : List ℕ} {count : ℕ}
    (left : Bounded n steps lm) (right : Bounded w steps rm)
    (F : First lm rm keep holds n w steps d k stamps count) where
  into_full : (s t c : ℕ) → s < n → t < w → c < steps → T (set_at w k s t) → goes lm steps c s < n
      → get_or stamps (goes lm steps c s) 0 ≡ 0 → (goes lm steps c s ≡ no_move) ⊎ T (landing holds rm steps c t)
      → T (fine lm rm w steps k s c t)
  unfolding ok_of landing
  into_full s t c hs ht hc x u z (inl e) = fine_nowhere lm rm w steps k s c t e
  into_full s t c hs ht hc x u z (inr l) =
      let (v, e, h) = lands_elim (bit_at holds) (decode (goes rm steps c t)) l in
      let y : T (set_at w k (goes lm steps c s) v) =
      F.full (goes lm steps c s) u z v (decode_inside right t c v ht hc e) h in
      stays_intro (λ x. lands (set_at w k x) (decode (goes rm steps c t))) (decode (goes lm steps c s))
      (λ a f. lands_intro (set_at w k a) (decode (goes rm steps c t)) v e
      (subst (λ (i : ℕ). T (set_at w k i v)) (target_is a f) y))
    where
      target_is : (a : ℕ) → decode (goes lm steps c s) ≡ some a → goes lm steps c s ≡ a
      target_is a f = let g = decode_some (goes lm steps c s) (λ e. omega (arith, left.few)) in (cc)

  pub state_start : (seen : List ℕ) {p : Progress} → ((s : ℕ) → get_or seen s 0 ≡ 0) → p.time ≡ 1 → p.count ≡ count
      → State lm rm n w steps k seen stamps p
  state_start seen zero begin all = record {
    clean = λ s c hs hc l t ht x. ⊎_elim (λ e. fine_nowhere lm rm w steps k s c t e)
        (λ u. into_full s t c hs ht hc x u (omega (arith, zero s)) ((F.kept s t hs ht x).1.1 c hc))
        (left.inside s c hs hc);
    looked = λ s hs. omega (arith, zero s);
    changed = λ u hu. omega (arith, F.stamped u hu);
    counted = all ∙ F.counted;
    falls = omega (arith, F.counted, pairs_le (set_at w k) w n);
  }

-- the pairs of two systems, as the bitmaps have them
module _ {A : Signature} {L R : FiniteSystem A} {keep holds lm rm : List ℕ} {sides : Sides}
    (G : Systems A L R keep holds lm rm sides) where
  abbrev n : ℕ
  n = sides.left_states

  abbrev w : ℕ
  w = sides.right_states

  abbrev steps : ℕ
  steps = sides.steps

  abbrev all : List Bool
  all = pairs L R

  pair_place : (s t : ℕ) → s * R.size + t ≡ s * w + t
  pair_place s t = ap (λ (x : ℕ). s * x + t) G.moves.right_size

  holds_is : (t : ℕ) → t < w → bit_at holds t ≡ R.holds t
  holds_is t h = packed_bit G.true_bits t h ∙ table_at w R.holds t h

  pair_in : (s t : ℕ) → s < n → t < w → T (bit_at keep s) → T (bit_at holds t) → T (at all (s * w + t))
  pair_in s t hs ht a b = subst (λ (p : ℕ). T (at all p)) (pair_place s t)
      (pairs_intro L R s t (
        subst T (packed_bit G.safe_bits s hs) a,
        (omega (arith, G.moves.right_size), subst T (holds_is t ht) b),
      ))

  pair_out : (s t : ℕ) → s < n → t < w → T (at all (s * w + t)) → T (bit_at keep s) × T (bit_at holds t)
  pair_out s t hs ht x =
      let (a, (k, b)) = pairs_elim L R s t (omega (arith, G.moves.right_size))
      (subst (λ (p : ℕ). T (at all p)) (sym (pair_place s t)) x) in
      (subst T (sym (packed_bit G.safe_bits s hs)) a, subst T (sym (holds_is t ht)) b)

  pub pairs_long : length (pairs L R) ≡ n * w
  unfolding pairs
  pairs_long = length_table (L.size * R.size) _ ∙ ap (λ (x : ℕ). x * R.size) G.moves.left_size
      ∙ ap (λ (x : ℕ). n * x) G.moves.right_size

  module _ (left : Bounded n steps lm) (right : Bounded w steps rm) (wide : 0 < w) {d k stamps : List ℕ} {count : ℕ}
      (F : First lm rm keep holds n w steps d k stamps count) where
    -- a step that leads into no pair is not matched, though all pairs are there
    unmatched : (s t c : ℕ) → s < n → t < w → c < steps → (goes lm steps c s ≡ no_move → ⊥)
        → T (not (landing holds rm steps c t)) → T (not (matched lm rm w steps all s t c))
    unfolding landing
    unmatched s t c hs ht hc there bad = ⊎_elim
        (λ m. absurd (T_not (landing holds rm steps c t) bad (lands_in m)))
        (λ m. m) (T_dec (matched lm rm w steps all s t c))
      where
        lands_in : T (matched lm rm w steps all s t c) → T (lands (bit_at holds) (decode (goes rm steps c t)))
        lands_in m =
            let u = goes lm steps c s in
            let e = decode_some u there in
            let hu : u < n = decode_inside left s c u hs hc e in
            let l = stays_elim (λ x. lands (λ v. at all (x * w + v)) (decode (goes rm steps c t))) (decode u) u m e in
            let (v, f, x) = lands_elim (λ v. at all (u * w + v)) (decode (goes rm steps c t)) l in
            lands_intro (bit_at holds) (decode (goes rm steps c t)) v f
            (pair_out u v hu (decode_inside right t c v ht hc f) x).1

    -- so what the first cut takes out may be taken out
    pub start_between : Between (pair_rule L R) (pairs L R) (denoted n w k)
    start_between = between_many (pair_rule L R) all all (denoted n w k)
        (between_start (pair_rule L R) all all) sub other
      where
        inside : (j : ℕ) → j < n * w → (j / w < n) × (j % w < w)
        inside j l = ((div-lt_iff_lt-mul wide).1 l, mod-lt j wide)

        place : (X : List Bool) (j : ℕ) → T (at X j) → T (at X (j / w * w + j % w))
        place X j x = subst (λ (p : ℕ). T (at X p)) (sym (div-add-mod' j w)) x

        back : (X : List Bool) (j : ℕ) → T (at X (j / w * w + j % w)) → T (at X j)
        back X j x = subst (λ (p : ℕ). T (at X p)) (div-add-mod' j w) x

        among : (X : List Bool) → length X ≡ n * w → (j : ℕ) → T (at X j) → j < n * w
        among X long j x = ⊎_elim (λ l. l)
            (λ l. absurd (subst T (get_or-eq_default X false (omega arith)) x)) (less j (n * w))

        sub : (j : ℕ) → T (at (denoted n w k) j) → T (at all j)
        sub j x =
            let (hs, ht) = inside j (among (denoted n w k) (denoted_long n w k) j x) in
            let y = subst T (denoted_at n w k (j / w) (j % w) hs ht) (place (denoted n w k) j x) in
            let (a, (b, f)) = F.kept (j / w) (j % w) hs ht y in
            back all j (pair_in (j / w) (j % w) hs ht a b)

        other : (j : ℕ) → T (at all j) → T (at (denoted n w k) j) ⊎ T (not ((pair_rule L R).keep all j))
        other j x =
            let (hs, ht) = inside j (among all pairs_long j x) in
            let y = place all j x in
            let (a, b) = pair_out (j / w) (j % w) hs ht y in
            ⊎_elim
            (λ z. inl (back (denoted n w k) j (subst T (sym (denoted_at n w k (j / w) (j % w) hs ht)) z)))
            (λ (c, hc, (there, bad)). inr (subst (λ (p : ℕ). T (not ((pair_rule L R).keep all p))) (div-add-mod' j w)
            (unmatched_fails G.moves (λ i z. z) (between_start (pair_rule L R) all all) (j / w) (j % w) c hs ht hc y
            (unmatched (j / w) (j % w) c hs ht hc there bad))))
            (F.gone (j / w) (j % w) hs ht a b)
