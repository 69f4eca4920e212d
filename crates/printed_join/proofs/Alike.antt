-- The joined text in a lent slice: what is printed does not depend on what the slice held, and the text at its front is
-- what is printed.
use Rattle.std.specs.Prelude.{Result, Ok, Err}
use mathlib.Core.Path.{◌≡◌, refl, sym, ap}
use mathlib.Core.Bool.{Bool, true, false, cond}
use mathlib.Core.Option.{Option, none, some}
use mathlib.Core.List.{List, ◌++◌}
use Prim.Native.Nat.{ℕ, ◌≤◌}
use native.Mathlib.Omega.{arith}
use lib.Dec.{ltb}
use lib.ListN.{length, drop, length-replicate}
use lib.Seq.{take_at}
use borrow.Author.Tests.{ltb-false}
use Rattle.refusals.specs.declared.Refusal.{Refusal}
use Rattle.refusals.specs.Refusals.{limit_exceeded, out_too_short}
use Rattle.byte_slices.specs.Laid.{Laid, laid}
use Rattle.byte_slices.specs.Put.{front_laid}
use Rattle.reader_record.specs.declared.Text.{Text}
use Rattle.two_texts.specs.Two.{two_judged}
use Rattle.two_texts.proofs.Laws.{judged_by_none, judged_by_some}
use Rattle.joining.specs.Outcome as joining
use Rattle.joining.specs.Outcome.{Outcome, within_limits, laid_text, record_outcome, joined_record, joined_bytes, join_outcome}
use Rattle.printed_lines.specs.Lines.{refusal_line}
use Rattle.printed.specs.Prints.{program_tick, zeros}
use Rattle.printed_join.specs.Prints.{text_printed, join_prints}

-- the outcomes for two slices t and u of one length: one refusal, which leaves each as it came, or one text in front of
-- what each held
data OutcomesAlike (t u : List ℕ) : Outcome → Outcome → Type 0 where
  refused : (r : Refusal) → OutcomesAlike t u (joining.refused r t) (joining.refused r u)
  written : (z : List ℕ) → length z ≤ length t
      → OutcomesAlike t u (record { answer = Ok (length z); out = z ++ drop (length z) t })
      (record { answer = Ok (length z); out = z ++ drop (length z) u })

record_alike : (j : Text) (z t u : List ℕ) → length u ≡ length t
    → OutcomesAlike t u (record_outcome j z t) (record_outcome j z u)
unfolding record_outcome laid_text
record_alike j z t u e = rw e (go (within_limits j z) (ltb (length t) (length z)) refl)
  where
    laid_in : Bool → Bool → List ℕ → Outcome
    laid_in a b x =
        cond a (cond b (joining.refused (out_too_short (length z)) x)
        (record { answer = Ok (length z); out = z ++ drop (length z) x })) (joining.refused limit_exceeded x)

    go : (a b : Bool) → ltb (length t) (length z) ≡ b → OutcomesAlike t u (laid_in a b t) (laid_in a b u)
    go false b q = refused limit_exceeded
    go true true q = refused (out_too_short (length z))
    go true false q = written z (ltb-false (length t) (length z) q)

module _ (left right : List ℕ) where
  outcome_refused : (t : List ℕ) (r : Refusal) → two_judged program_tick left right ≡ some r
      → join_outcome program_tick left right t ≡ joining.refused r t
  unfolding join_outcome
  outcome_refused t r e = judged_by_some (two_judged program_tick left right) _ _ r e

  outcome_record : (t : List ℕ) → none ≡ two_judged program_tick left right
      → join_outcome program_tick left right t
      ≡ record_outcome (joined_record program_tick left right) (joined_bytes program_tick left right) t
  unfolding join_outcome
  outcome_record t e = judged_by_none (two_judged program_tick left right) _ _ e

  outcomes_alike : (t u : List ℕ) → length u ≡ length t
      → OutcomesAlike t u (join_outcome program_tick left right t) (join_outcome program_tick left right u)
  outcomes_alike t u e = go (two_judged program_tick left right) refl
    where
      go : (o : Option Refusal) → two_judged program_tick left right ≡ o
          → OutcomesAlike t u (join_outcome program_tick left right t) (join_outcome program_tick left right u)
      go none d =
          rw (outcome_record t (sym d), outcome_record u (sym d))
          (record_alike (joined_record program_tick left right) (joined_bytes program_tick left right) t u e)
      go (some r) d = rw (outcome_refused t r d, outcome_refused u r d) (refused r)

alike_written :
    {t u : List ℕ} {n : ℕ} {a b : Outcome} → OutcomesAlike t u a b → a.answer ≡ Ok n
    → (◌≡◌ {A = Laid} (record { slice = a.out; count = n }) (laid t (text_printed b.answer b.out)))
    × (length (text_printed b.answer b.out) ≤ length t)
unfolding text_printed joining.refused
alike_written (refused r) e = let z : ◌≡◌ {A = ℕ} 0 1 = cc in absurd (omega arith)
alike_written {t} {u} {n} (written z l) e =
    let m : length z ≡ n = cc in (
      rw (sym m) (front_laid t u z (length z) refl l),
      rw (take_at z (drop (length z) u) (length z) refl) l,
    )

alike_refused :
    {t u : List ℕ} {f : Refusal} {a b : Outcome} → OutcomesAlike t u a b → a.answer ≡ Err f
    → (a.out ≡ t) × (refusal_line f ≡ text_printed b.answer b.out)
unfolding text_printed joining.refused
alike_refused (refused r) e = (refl, ap refusal_line (cc))
alike_refused (written z l) e = let z : ◌≡◌ {A = ℕ} 0 1 = cc in absurd (omega arith)

-- what the function leaves in the slice and returns
module _
    (left right : List ℕ) {a : Result ℕ Refusal} {after : List ℕ} (out : List ℕ)
    (done : ◌≡◌ {A = Outcome} (record { answer = a; out = after }) (join_outcome program_tick left right out)) where
  alike : OutcomesAlike out (zeros (length out)) (record { answer = a; out = after })
      (join_outcome program_tick left right (zeros (length out)))
  unfolding zeros
  alike = rw done (outcomes_alike left right out (zeros (length out)) (length-replicate (length out) 0))

  pub join_laid : {n : ℕ} → a ≡ Ok n
      → (◌≡◌ {A = Laid} (record { slice = after; count = n }) (laid out (join_prints (length out) left right)))
      × (length (join_prints (length out) left right) ≤ length out)
  unfolding join_prints
  join_laid e = alike_written alike e

  pub join_refused : {f : Refusal} → a ≡ Err f
      → (after ≡ out) × (refusal_line f ≡ join_prints (length out) left right)
  unfolding join_prints
  join_refused e = alike_refused alike e
