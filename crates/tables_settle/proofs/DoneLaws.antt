-- The end of the removal: every row is quiet, so no pair that is left breaks a rule.
use mathlib.Core.Path.{◌≡◌, sym, subst, ◌∙◌}
use mathlib.Core.Logic.{⊎_elim}
use mathlib.Core.Bool.{Bool, false}
use mathlib.Core.List.{List}
use Prim.Native.Nat.{ℕ, ◌+◌, ◌*◌, ◌/◌, ◌%◌, ◌≤◌, ◌<◌}
use native.Mathlib.Nat.{div-add-mod', mod-lt, div-lt_iff_lt-mul}
use native.Mathlib.Omega.{arith}
use lib.Dec.{T}
use lib.ListN.{length, get_or, get_or-eq_default}
use Rattle.systems.specs.Bools.{stays_elim, lands_elim}
use Rattle.systems.specs.Tests.{at, lands, stage}
use Rattle.systems.proofs.Sieve.{Between, between_done, length_stage, same_table, ones_le}
use Rattle.systems.specs.Definitions.{Signature}
use Rattle.systems.specs.Finite.{FiniteSystem, pruned, pair_ok, cell}
use Rattle.systems.proofs.Departure.{pruned_elim}
use Rattle.systems.proofs.Refinement.{Moves, moves_rule, pair_complete, pair_rule}
use Rattle.bitmaps.specs.BitLaws.{less}
use Rattle.move_tables.specs.Moves.{Bounded, decode}
use Rattle.move_tables.specs.Given.{Given}
use Rattle.tables_rows.specs.Raster.{set_at, denoted}
use Rattle.tables_runs.specs.Runs.{goes}
use Rattle.tables_cut.specs.Rule.{fine}
use Rattle.bitmaps.specs.Packed.{bytes_for}
use Rattle.tables_settle.specs.declared.Progress.{Progress}
use Rattle.tables_settle.specs.State.{State, Among, Shrunk, Quiet, Settled}
use Rattle.tables_settle.specs.RemovalLaws.{matched, cell_is, entry_pair, denoted_at, denoted_long, fine_nowhere}
use Rattle.tables_settle.proofs.BitLaws.{raster_bits}
use Rattle.tables_settle.proofs.TurnLaws.{fine_matched}

-- every entry of Y, left of the table X of pairs, is matched at every step: Y is what is left in the end
module _ {A : Signature} {L R : FiniteSystem A} {lm rm : List ℕ} {n w steps : ℕ} (G : Given A L R lm rm n w steps)
    {X Y : List Bool} (among : Among L R X) (B : Between (pair_rule L R) X Y) (wide : 0 < w)
    (from : length X ≡ n * w) (long : length Y ≡ n * w)
    (all : (s t c : ℕ) → s < n → t < w → c < steps → T (at Y (s * w + t)) → T (matched lm rm w steps Y s t c)) where
  moves : (s t : ℕ) → s < n → t < w → T (at Y (s * w + t)) → Moves L R (λ u v. T (cell L R Y u v)) s t
  moves s t m l x c u e =
      let hc : c < steps = omega (arith, G.known, L.next_known s c u (pruned_elim L s c u e).0) in
      let y = stays_elim (λ u. lands (λ v. at Y (u * w + v)) (decode (goes rm steps c t))) (decode (goes lm steps c s)) u
      (all s t c m l hc x) (sym (G.left.move s c m hc) ∙ e) in
      let (v, f, z) = lands_elim (λ v. at Y (u * w + v)) (decode (goes rm steps c t)) y in
      (v, G.right.move t c l hc ∙ f, subst T (sym (cell_is G among B u v)) z)

  -- so it passes the rule's test
  keeps : (p : ℕ) → T (at Y p) → T ((pair_rule L R).keep Y p)
  keeps p x =
      let s = p / w in
      let t = p % w in
      let l : t < w = mod-lt p wide in
      let in_table : p < n * w = ⊎_elim (λ a. a)
      (λ a. absurd (subst T (get_or-eq_default Y false (omega arith)) x)) (less p (n * w)) in
      let m : s < n = (div-lt_iff_lt-mul wide).1 in_table in
      let x' : T (at Y (s * w + t)) = subst (λ (y : ℕ). T (at Y y)) (sym (div-add-mod' p w)) x in
      let r = pair_complete L R (cell L R Y) s t
      (moves_rule L R (λ u v. T (cell L R Y u v)) s t (entry_pair G among B s t l x') (moves s t m l x')) in
      subst (λ (y : ℕ). T (pair_ok A (pruned L) R.next (cell L R Y) (p / y) (p % y))) (sym G.right_size) r

  left_is : Y ≡ stage (pair_rule L R).keep X (n * w)
  left_is = same_table Y (stage (pair_rule L R).keep X (n * w))
      (long ∙ sym (length_stage (pair_rule L R).keep X (n * w) ∙ from))
      (between_done (pair_rule L R) X Y B keeps (n * w) (omega (arith, ones_le X)))

-- every row is quiet: the removal is done
pub settled_done : {lm rm : List ℕ} {n w steps : ℕ} {k k' seen stamps : List ℕ} {p : Progress} → Bounded n steps lm
    → Bounded w steps rm → 0 < w → n * bytes_for w ≤ length k → ((i : ℕ) → get_or k' i 0 < 256)
    → Shrunk lm rm n w steps k k' → State lm rm n w steps k' seen stamps p
    → ((x : ℕ) → 0 ≤ x → x < n → Quiet lm steps stamps x (get_or seen x 0)) → Settled lm rm n w steps k k' p.count
settled_done {lm} {rm} {n} {w} {steps} {k} {k'} left right wide room small D S quiet = record {
  left = λ A L R G X long among B. left_is G among (D.between A L R G X among B) wide long (denoted_long n w k') all;
  raster = λ clear. raster_bits n w k k' room D.sized small
      (λ s t hs l h. D.spare s t hs l h ∙ clear s t hs l h) D.past;
  counted = S.counted;
}
  where
    fine_all : (s t c : ℕ) → s < n → t < w → c < steps → T (set_at w k' s t) → T (fine lm rm w steps k' s c t)
    fine_all s t c hs ht hc x = ⊎_elim (λ e. fine_nowhere lm rm w steps k' s c t e)
        (λ l. S.clean s c hs hc l t ht x) (quiet s (omega arith) hs c hc)

    all : (s t c : ℕ) → s < n → t < w → c < steps → T (at (denoted n w k') (s * w + t))
        → T (matched lm rm w steps (denoted n w k') s t c)
    all s t c hs ht hc x = subst T (fine_matched left right k' s t c hs ht hc)
        (fine_all s t c hs ht hc (subst T (denoted_at n w k' s t hs ht) x))
