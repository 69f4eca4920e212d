-- What program join prints: for any two files it is one of the answers of specs/Answers.antt (SPECIFICATION 17.10). A
-- theorem from the guarantees.
use Rattle.std.proofs.Math.Path.{◌≡◌, refl, ap}
use Rattle.std.proofs.Common.{sym, subst, arith}
use Rattle.std.proofs.Math.Option.{Option, none, some}
use Rattle.std.specs.Prelude.{List, ℕ, Result, Ok, Err}
use Rattle.std.proofs.Math.ListN.{length}
use Rattle.refusals.specs.declared.Refusal.{Refusal}
use Rattle.refusals.specs.Refusals.{limit_exceeded}
use Rattle.two_texts.specs.Two.{two_judged}
use Rattle.joining.specs.Outcome.{Outcome, joined_record, joined_bytes, join_outcome}
use Rattle.guarantees.specs.Joining.{Within, Joins}
use Rattle.guarantees.proofs.Guarantees.{join_judged, joining_exactly}
use Rattle.printed.specs.Prints.{program_tick, zeros}
use Rattle.printed.specs.Fits.{zeros_length}
use Rattle.printed_join.specs.Prints.{text_printed, join_prints, join_room}
use Rattle.program_answers.specs.Answers.{JoinAnswers}

module _ (left right : List ℕ) where
  abbrev outcome : Outcome
  outcome = join_outcome program_tick left right (zeros join_room)

  -- what is printed, by the answer
  prints : (a : Result ℕ Refusal) → outcome.answer ≡ a → join_prints join_room left right ≡ text_printed a outcome.out
  unfolding join_prints
  prints a e = ap (λ (b : Result ℕ Refusal). text_printed b outcome.out) e

  -- where codes 1 to 12 find nothing: the program's slice has room for every text, so a refusal is 25
  limit_passed : none ≡ two_judged program_tick left right → (r : Refusal) → outcome.answer ≡ Err r
      → JoinAnswers left right (join_prints join_room left right)
  unfolding text_printed
  limit_passed e r q = JoinAnswers.limit e never
      (prints (Err limit_exceeded) ((joining_exactly program_tick left right (zeros join_room)).limit.1 (e, never)))
    where
      never : Within (joined_record program_tick left right) (joined_bytes program_tick left right) → ⊥
      never w =
          let d = joining_exactly program_tick left right (zeros join_room) in
          let z = length (joined_bytes program_tick left right) in
          let h = (d.long z).1
          (record { judged = e; within = w }, refl, omega (arith, w.bytes, zeros_length join_room)) in
          let n : ◌≡◌ {A = ℕ} 0 1 = cc in
          omega (arith, n)

  -- for any two files
  pub join_answers : JoinAnswers left right (join_prints join_room left right)
  unfolding text_printed
  join_answers = go (two_judged program_tick left right) refl outcome.answer refl
    where
      go : (o : Option Refusal) → two_judged program_tick left right ≡ o → (a : Result ℕ Refusal) → outcome.answer ≡ a
          → JoinAnswers left right (join_prints join_room left right)
      go (some r) e a q = JoinAnswers.unjoined r e
          (prints (Err r) (ap (λ (x : Outcome). x.answer)
          (join_judged program_tick left right (zeros join_room) r e)))
      go none e (Err r) q = limit_passed (sym e) r q
      go none e (Ok n) q =
          let (a, b, j) = (joining_exactly program_tick left right (zeros join_room)).joins n q in
          JoinAnswers.joined a b (subst (Joins program_tick left right a b) (sym (prints (Ok n) q)) j)
