-- Laws of landing, of rows in which some bits are known not to be set, and of the room for runs.
use Rattle.std.specs.Prelude.{◌≡◌, refl, Bool, false, ◌&&◌, List, ℕ, ◌+◌, ◌*◌, ◌/◌, ◌≤◌, ◌<◌, get_or}
use Rattle.std.proofs.Common.{ap, ◌∙◌, inl, inr, ⊎_elim, mul-le-mul_right, arith}
use Rattle.std.proofs.Math.Nat.{zero-div}
use Rattle.systems.specs.Tests.{lands}
use Rattle.limits.specs.Limits.{step_limit}
use Rattle.bitmaps.specs.Bits.{bit_at}
use Rattle.bitmaps.specs.BitLaws.{less}
use Rattle.move_tables.specs.Moves.{no_move}
use Rattle.move_tables.specs.MoveLaws.{decode_none, decode_some}
use Rattle.tables_ranges.specs.Cut.{Cut}
use Rattle.tables_ranges.specs.CutLaws.{cut_clear, cut_join}
use Rattle.tables_runs.specs.Runs.{goes, landing, Within, Blank}

pub landing_none : (source m : List ℕ) (steps c i : ℕ) → goes m steps c i ≡ no_move
    → landing source m steps c i ≡ false
unfolding landing lands
landing_none source m steps c i z = rw (decode_none (goes m steps c i) z)

pub landing_some : (source m : List ℕ) (steps c i : ℕ) → (goes m steps c i ≡ no_move → ⊥)
    → landing source m steps c i ≡ bit_at source (goes m steps c i)
unfolding landing lands
landing_some source m steps c i z = rw (decode_some (goes m steps c i) z)

-- no bit of a byte that is 0 is set
pub zero_byte : (k : List ℕ) (j : ℕ) → get_or k j 0 ≡ 0 → (i : ℕ) → i / 8 ≡ j → bit_at k i ≡ false
unfolding bit_at
zero_byte k j z i e = rw (e, z, zero-div)

-- bytes that are 0: none, one, and those that meet
pub blank_none : {k : List ℕ} {a : ℕ} → Blank k a a
blank_none = record { zero = λ j p q. absurd (omega arith) }

pub blank_one : {k : List ℕ} {a : ℕ} → get_or k a 0 ≡ 0 → Blank k a (a + 1)
blank_one {k} {a} z = record { zero = λ j p q. let e : j ≡ a = omega arith in ap (λ (x : ℕ). get_or k x 0) e ∙ z }

pub blank_join : {k : List ℕ} {a b e : ℕ} → Blank k a b → Blank k b e → Blank k a e
blank_join {b = b} B C = record { zero = λ j p q. ⊎_elim (λ l. B.zero j p l) (λ l. C.zero j l q) (less j b) }

pub blank_bit : {k : List ℕ} {a e : ℕ} → Blank k a e → (i : ℕ) → a ≤ i / 8 → i / 8 < e → bit_at k i ≡ false
blank_bit {k} B i p q = zero_byte k (i / 8) (B.zero (i / 8) p q) i refl

-- a row whose set bits lie between `from` and `to` is cut whole when it is cut from `from` to `to` or further
pub cut_within : {P : ℕ → Bool} {w from to e : ℕ} {k k' : List ℕ} → Within w k from to → from ≤ e → to ≤ e → e ≤ w
    → Cut from e P k k' → Cut 0 w P k k'
cut_within W l m h C =
    cut_join (omega arith) (omega (arith, W.ordered, W.inside))
    (cut_clear (λ i p q. W.outside i (omega (arith, W.ordered, W.inside)) (inl q)))
    (cut_join l h C (cut_clear (λ i p q. C.outside i (inr p) ∙ W.outside i q (inr (omega arith)))))

-- a row that is cut has no bit set where it had none
pub within_cut : {P : ℕ → Bool} {a e w from to : ℕ} {k k' : List ℕ} → Cut a e P k k' → Within w k from to
    → Within w k' from to
within_cut {P} {a} {e} {k = k} {k'} C W = record {
  ordered = W.ordered;
  inside = W.inside;
  outside = λ i l h. gone i (W.outside i l h);
}
  where
    gone : (i : ℕ) → bit_at k i ≡ false → bit_at k' i ≡ false
    gone i z = ⊎_elim (λ l. C.outside i (inl l) ∙ z)
        (λ l. ⊎_elim (λ m. C.inside i l m ∙ ap (λ (x : Bool). x && P i) z) (λ m. C.outside i (inr m) ∙ z) (less i e))
        (less i a)

-- room for the runs of at most m states
pub runs_room : (steps w m : ℕ) → steps ≤ step_limit → w ≤ m → steps * w ≤ m * step_limit
runs_room steps w m h l = omega (arith, mul-le-mul_right w h)
