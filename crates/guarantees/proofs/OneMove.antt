-- Codes 10 and 11 and parallel edges are as specs/Parallel.antt asks, by the laws of crate clocks.
use Rattle.std.specs.Prelude.{◌≡◌, cond, List, ℕ, ◌<◌, eqb, Result, Ok, Err, ⊤}
use Rattle.std.proofs.Math.Path.{refl, subst, ap}
use Rattle.std.proofs.Common.{sym, ◌∙◌, arith}
use Rattle.limits.specs.Limits.{tick_allowed}
use Rattle.refusals.specs.declared.File.TheVariants.{Left}
use Rattle.refusals.specs.declared.Refusal.{Refusal}
use Rattle.refusals.specs.declared.Refusal.TheVariants as refusal
use Rattle.refusals.specs.Refusals as numbers
use Rattle.refusals.specs.Refusals.{code}
use Rattle.refusals.specs.Answers.{answer_of}
use Rattle.reader_record.specs.declared.Text.{Text}
use Rattle.reader.specs.Reading as reader
use Rattle.reader.specs.Reading.{read_text}
use Rattle.reader_formed.proofs.Formed.{read_formed}
use Rattle.clocks.specs.declared.Flaw.{Flaw}
use Rattle.clocks.specs.declared.Flaw.TheVariants.{TooManyStates, NoMove, TwoEdges}
use Rattle.clocks.specs.Meaning.{led, moves}
use Rattle.clocks.specs.States.{judgement}
use Rattle.clocks.specs.Accepted as clocks
use Rattle.clocks.proofs.Agreement.{edge_gives_agrees, after_agrees}
use Rattle.clocks.proofs.Standing.{led_one}
use Rattle.clocks.proofs.Found.{two_edges_exactly, no_move_exactly, standing_one_move, by_an_edge}
use Rattle.clocks_read.specs.Reading.{judged_reading, parsed_reading, read_outcome}
use Rattle.clocks_read.specs.Laws.{read_accepted}
use Rattle.implementation_check.proofs.Codes.{last_token_code, tick_code, too_late, token_codes}
use Rattle.guarantees.specs.Parallel.{record_of, ParallelDemand}

-- the flaw that a refusal by one of the codes 9 to 11 names
told : Refusal → Flaw
told f = cond (eqb (code f) (code (refusal.TwoEdges Left 0 0))) (TwoEdges (numbers.p f) (numbers.q f))
    (cond (eqb (code f) (code (refusal.InputWithoutMove Left 0 0))) (NoMove (numbers.p f) (numbers.q f))
    (TooManyStates (numbers.p f)))

judged_told : (j : Result ⊤ Flaw) (t : Text) (f : Refusal) → answer_of (judged_reading j t) ≡ Err f → j ≡ Err (told f)
unfolding judged_reading told
judged_told (Ok clean) t f e = let z : ◌≡◌ {A = ℕ} 0 1 = cc in absurd (omega arith)
judged_told (Err (TooManyStates n)) t f e =
    let z : refusal.TooManyStates Left n ≡ f = cc in
    ap (λ (x : Refusal). Err (told x)) z
judged_told (Err (NoMove s c)) t f e =
    let z : refusal.InputWithoutMove Left s c ≡ f = cc in
    ap (λ (x : Refusal). Err (told x)) z
judged_told (Err (TwoEdges s c)) t f e =
    let z : refusal.TwoEdges Left s c ≡ f = cc in
    ap (λ (x : Refusal). Err (told x)) z

module _ (period : ℕ) (s : List ℕ) where
  -- a refusal by a code after 8 is that of the judgement on the record, and the other way round
  judged_as : (f : Refusal) → last_token_code < code f → code f < tick_code
      → answer_of (read_outcome period s) ≡ Err f
      → (answer_of (read_text period s) ≡ Ok tt) × (judgement (record_of period s) ≡ Err (told f))
  unfolding read_outcome
  judged_as f low high e = go (read_text period s) refl e
    where
      go : (r : Result Text Refusal) → read_text period s ≡ r → answer_of (parsed_reading r) ≡ Err f
          → (answer_of r ≡ Ok tt) × (judgement (reader.record_of r) ≡ Err (told f))
      go (Ok t) p q = (refl, judged_told (judgement t) t f (unfold parsed_reading in q))
      go (Err r) p q = absurd (too_late last_token_code (tick_allowed period) f r
          (sym (unfold parsed_reading in q)) low high (token_codes period s r (ap answer_of p)))

  refused_by : (f : Flaw) → answer_of (read_text period s) ≡ Ok tt → judgement (record_of period s) ≡ Err f
      → answer_of (read_outcome period s) ≡ answer_of (judged_reading (Err f) (record_of period s))
  unfolding read_outcome
  refused_by f = go (read_text period s)
    where
      go : (r : Result Text Refusal) → answer_of r ≡ Ok tt → judgement (reader.record_of r) ≡ Err f
          → answer_of (parsed_reading r) ≡ answer_of (judged_reading (Err f) (reader.record_of r))
      go (Ok t) e q = unfold parsed_reading in ap (λ (j : Result ⊤ Flaw). answer_of (judged_reading j t)) q
      go (Err r) e q = let z : ◌≡◌ {A = ℕ} 0 1 = cc in absurd (omega arith)

  pub parallel_promised : ParallelDemand period s (answer_of (read_outcome period s))
  unfolding told
  parallel_promised = record {
    eleven = λ n c. (
      λ e.
          let (p, j) = judged_as (refusal.TwoEdges Left n c) (omega arith) (omega arith) e in
          let (few, (l, w)) = (two_edges_exactly (record_of period s) (read_formed period s p) n c).0 j in
          ((p, few), l, w),
      λ ((p, few), l, w). refused_by (TwoEdges n c) p
          ((two_edges_exactly (record_of period s) (read_formed period s p) n c).1 (few, (l, w)))
          ∙ unfold judged_reading in refl,
    );
    ten = λ n c. (
      λ e.
          let (p, j) = judged_as (refusal.InputWithoutMove Left n c) (omega arith) (omega arith) e in
          let (few, (l, w)) = (no_move_exactly (record_of period s) (read_formed period s p) n c).0 j in
          ((p, few), l, w),
      λ ((p, few), l, w). refused_by (NoMove n c) p
          ((no_move_exactly (record_of period s) (read_formed period s p) n c).1 (few, (l, w)))
          ∙ unfold judged_reading in refl,
    );
    same_edges = λ (p, few) x c i h. edge_gives_agrees (record_of period s) (read_formed period s p) x c i h;
    same_states = λ (p, few) x i j h l. after_agrees (record_of period s) (read_formed period s p) x i j h l;
    one_move = λ e x h c i l g. ap led (standing_one_move (record_of period s) (accepted e) x h c i l g)
        ∙ unfold led in refl;
    by_an_edge = λ e x u c h q. by_an_edge (record_of period s) x c u h (led_one (moves (record_of period s) x c) u q);
  }
    where
      accepted : answer_of (read_outcome period s) ≡ Ok tt → clocks.Accepted (record_of period s)
      accepted e = let r = read_accepted period s e in subst clocks.Accepted r.same r.accepted
