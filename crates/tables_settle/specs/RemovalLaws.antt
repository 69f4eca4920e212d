-- What may be taken out of a table: entries at which a step is not matched, any number of them at once.
use Rattle.std.specs.Prelude.{◌≡◌, ◌⊎◌, Bool, not, List, ℕ, ◌+◌, ◌*◌, ◌/◌, ◌%◌, ◌<◌, T, length}
use Rattle.std.proofs.Common.{sym, subst, ap, ◌∙◌, ⊎_elim, arith, T_not}
use Rattle.std.proofs.Math.Arith.{digits_lt, digits_div, digits_mod}
use Rattle.systems.specs.Bools.{T_dec, stays_intro, lands_intro}
use Rattle.systems.specs.Tests.{at, ones, stays, lands, stage}
use Rattle.systems.proofs.Sieve.{Rule, Between, stage_keeps, length_table}
use Rattle.systems.specs.Definitions.{Signature}
use Rattle.systems.specs.Finite.{FiniteSystem, pruned, pair_ok, cell}
use Rattle.systems.proofs.Refinement.{Pair, Moves, rule_moves, pair_sound, pair_rule, pairs_elim}
use Rattle.move_tables.specs.Moves.{decode, no_move}
use Rattle.move_tables.specs.MoveLaws.{decode_none}
use Rattle.move_tables.specs.Given.{Given}
use Rattle.tables_rows.specs.Raster.{set_at, denoted}
use Rattle.tables_rows.specs.TableLaws.{table_at}
use Rattle.tables_runs.specs.Runs.{goes}
use Rattle.tables_cut.specs.Rule.{ok_of, fine}
use Rattle.tables_settle.specs.State.{Among}

-- step c of the pair (s, t) is matched in the table X
abbrev pub matched : List ℕ → List ℕ → ℕ → ℕ → List Bool → ℕ → ℕ → ℕ → Bool
matched lm rm w steps X s t c =
    stays (λ u. lands (λ v. at X (u * w + v)) (decode (goes rm steps c t))) (decode (goes lm steps c s))

-- several entries that fail the test may be cleared at once
pub between_many : (R : Rule) (X Y Z : List Bool) → Between R X Y → ((j : ℕ) → T (at Z j) → T (at Y j))
    → ((j : ℕ) → T (at Y j) → T (at Z j) ⊎ T (not (R.keep Y j))) → Between R X Z
between_many R X Y Z B sub other = record {
  inside = λ j t. B.inside j (sub j t);
  around = λ j t. ⊎_elim (λ z. z) (λ bad. absurd (T_not (R.keep Y j) bad (kept j t))) (other j (B.around j t));
}
  where
    kept : (j : ℕ) → T (at (stage R.keep X (ones X)) j) → T (R.keep Y j)
    kept j t = R.complete Y j (R.mono (λ i. T (at (stage R.keep X (ones X)) i)) (λ i. T (at Y i)) B.around j
        (stage_keeps R X (ones X) (omega arith) j t))

-- an entry of the table that a raster denotes
pub denoted_at : (n w : ℕ) (k : List ℕ) (s t : ℕ) → s < n → t < w → at (denoted n w k) (s * w + t) ≡ set_at w k s t
unfolding denoted
denoted_at n w k s t hs ht =
    table_at (n * w) (λ p. set_at w k (p / w) (p % w)) (s * w + t) (digits_lt hs ht)
    ∙ rw (digits_div s ht, digits_mod s ht)

pub denoted_long : (n w : ℕ) (k : List ℕ) → length (denoted n w k) ≡ n * w
unfolding denoted
denoted_long n w k = length_table (n * w) _

-- a table X of pairs, of which Y is left
module _ {A : Signature} {L R : FiniteSystem A} {lm rm : List ℕ} {n w steps : ℕ} (G : Given A L R lm rm n w steps)
    {X Y : List Bool} (among : Among L R X) (B : Between (pair_rule L R) X Y) where
  pub cell_is : (u v : ℕ) → at Y (u * R.size + v) ≡ at Y (u * w + v)
  cell_is u v = ap (λ (x : ℕ). at Y (u * x + v)) G.right_size

  -- an entry of the table is a pair
  pub entry_pair : (s t : ℕ) → t < w → T (at Y (s * w + t)) → Pair L R s t
  entry_pair s t h x = pairs_elim L R s t (omega (arith, G.right_size))
      (among (s * R.size + t) (B.inside (s * R.size + t) (subst T (sym (cell_is s t)) x)))

  entry_moves : (s t : ℕ) → t < w → T (at Y (s * w + t)) → T (pair_ok A (pruned L) R.next (cell L R Y) s t)
      → Moves L R (λ u v. T (cell L R Y u v)) s t
  entry_moves s t h x k = rule_moves L R (λ u v. T (cell L R Y u v)) s t (entry_pair s t h x)
      (pair_sound L R (cell L R Y) s t k)

  -- an entry that passes the rule's test is matched
  kept_matched : (s t c : ℕ) → s < n → t < w → c < steps → T (at Y (s * w + t))
      → T (pair_ok A (pruned L) R.next (cell L R Y) s t) → T (matched lm rm w steps Y s t c)
  kept_matched s t c hs ht hc x k =
      stays_intro (λ u. lands (λ v. at Y (u * w + v)) (decode (goes rm steps c t)))
      (decode (goes lm steps c s)) (λ u e. let (v, m, z) =
      entry_moves s t ht x k c u (G.left.move s c hs hc ∙ e) in
      lands_intro (λ v. at Y (u * w + v)) (decode (goes rm steps c t)) v (sym (G.right.move t c ht hc) ∙ m)
      (subst T (cell_is u v) z))

  -- an entry that is not matched fails it
  pub unmatched_fails : (s t c : ℕ) → s < n → t < w → c < steps → T (at Y (s * w + t))
      → T (not (matched lm rm w steps Y s t c)) → T (not ((pair_rule L R).keep Y (s * w + t)))
  unmatched_fails s t c hs ht hc there bad =
      let row : (s * w + t) / R.size ≡ s = ap (λ (y : ℕ). (s * w + t) / y) G.right_size ∙ digits_div s ht in
      let column : (s * w + t) % R.size ≡ t = ap (λ (y : ℕ). (s * w + t) % y) G.right_size ∙ digits_mod s ht in
      rw (row, column) (⊎_elim
      (λ k. absurd (T_not (matched lm rm w steps Y s t c) bad (kept_matched s t c hs ht hc there k)))
      (λ k. k) (T_dec (pair_ok A (pruned L) R.next (cell L R Y) s t)))

-- no move: no rule is broken
pub fine_nowhere : (lm rm : List ℕ) (w steps : ℕ) (k : List ℕ) (s c t : ℕ) → goes lm steps c s ≡ no_move
    → T (fine lm rm w steps k s c t)
unfolding ok_of stays
fine_nowhere lm rm w steps k s c t e = rw (decode_none (goes lm steps c s) e) tt
