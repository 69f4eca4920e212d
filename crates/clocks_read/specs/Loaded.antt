-- What an operation knows of a text that was judged into slices: the reading is that of the text, and of an accepted text
-- the slices are filled.
use Rattle.std.specs.Prelude.{◌≡◌, List, ℕ, ◌≤◌, length, Result, Ok, ⊤}
use Rattle.std.proofs.Common.{sym, ap, ◌∙◌, arith}
use Rattle.limits.specs.Limits.{state_limit}
use Rattle.refusals.specs.declared.Refusal.{Refusal}
use Rattle.refusals.specs.Answers.{answer_of}
use Rattle.clocks.specs.States.{state_count}
use Rattle.clocks.specs.Encoding.{Filled}
use Rattle.clocks.specs.Accepted.{Accepted}
use Rattle.clocks.proofs.Judgement.{judgement_few}
use Rattle.clocks_table.specs.Room.{Room}
use Rattle.clocks_table.specs.Judge.{judge_room}
use Rattle.clocks_read.specs.declared.Reading.{Reading}
use Rattle.clocks_read.specs.Reading.{read_outcome, text_in, states_in}
use Rattle.clocks_read.specs.Loading.{Loading, loading, load_outcome}
use Rattle.clocks_read.specs.Laws.{read_accepted, load_reading, load_moves, load_holds}

module _ (period : ℕ) (s m h : List ℕ) (r : Result Reading Refusal) (m' h' : List ℕ)
    (e : loading r m' h' ≡ load_outcome period s m h) where
  reading_is : r ≡ read_outcome period s
  reading_is = ap (λ (l : Loading). l.reading) e ∙ load_reading period s m h

  pub answer_is : (v : Result ⊤ Refusal) → answer_of r ≡ v → answer_of (read_outcome period s) ≡ v
  answer_is v a = sym (ap (λ (x : Result Reading Refusal). answer_of x) reading_is) ∙ a

  pub text_is : text_in r ≡ text_in (read_outcome period s)
  text_is = ap text_in reading_is

  module _ (a : answer_of r ≡ Ok tt) where
    accepted_is : Accepted (text_in (read_outcome period s))
    accepted_is = (read_accepted period s (answer_is (Ok tt) a)).accepted

    pub record_accepted : Accepted (text_in r)
    record_accepted = rw text_is accepted_is

    pub states_are : states_in r ≡ state_count (text_in r)
    states_are = rw text_is (ap states_in reading_is
        ∙ (read_accepted period s (answer_is (Ok tt) a)).states)

    pub states_few : states_in r ≤ state_limit
    states_few = omega (arith, states_are, judgement_few (text_in r) record_accepted.clean)

    pub slices_filled : (n : ℕ) → n ≡ state_count (text_in (read_outcome period s)) → Room n (length m) (length h)
        → Filled (text_in r) m' h'
    slices_filled n q l =
        let c = judgement_few (text_in (read_outcome period s)) accepted_is.clean in
        let room = judge_room (text_in (read_outcome period s)) accepted_is.formed n q (omega arith) _ _ l in
        rw text_is (record {
          over = m;
          room = room.0;
          moves_are = ap (λ (x : Loading). x.moves) e ∙ load_moves period s m h (answer_is (Ok tt) a);
          under = h;
          long = room.1;
          holds_are = ap (λ (x : Loading). x.holds) e ∙ load_holds period s m h (answer_is (Ok tt) a);
        })
