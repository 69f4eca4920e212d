-- Two texts that are measured and judged by codes 24 and 1 to 12: what joining goes on with, and its outcome by that.
use Rattle.std.specs.Prelude.{◌≡◌, List, ℕ, Result, Ok, Err, IsErrAnd}
use Rattle.std.proofs.Math.Path.{refl, sym, ap}
use Rattle.std.proofs.Common.{◌∙◌, arith}
use Rattle.std.proofs.lemmas.Result.{err_from_is_err_and}
use Rattle.std.proofs.Math.Option.{none}
use Rattle.refusals.specs.declared.Refusal.{Refusal}
use Rattle.refusals.specs.Answers.{answer_of}
use Rattle.reader_record.specs.declared.Text.{Text}
use Rattle.reader_record.specs.Formed.{WellFormed}
use Rattle.reader.specs.Reading.{record_of}
use Rattle.reader_formed.specs.Promise.{NamesWithin}
use Rattle.reader_formed.proofs.Formed.{read_formed, read_names}
use Rattle.clocks_read.specs.declared.Measured.{Measured}
use Rattle.clocks_read.specs.Reading.{read_outcome}
use Rattle.clocks_read.specs.Measured.{Measures}
use Rattle.clocks_read.specs.Laws.{read_accepted, measured_refused, measured_text}
use Rattle.pairing.specs.Channels.{right_step}
use Rattle.two_texts.specs.declared.MeasuredTexts.{MeasuredTexts}
use Rattle.two_texts.specs.declared.TwoTexts.{TwoTexts}
use Rattle.two_texts.specs.Two.{text_of, two_judged}
use Rattle.two_texts.specs.Loaded.{refusal_in, Loads}
use Rattle.two_texts.specs.Measured.{MeasuresTwo}
use Rattle.two_texts.proofs.Laws.{judged_none, judged_by_none, judged_by_some}
use Rattle.written.specs.Underscores.{written_text}
use Rattle.written_names.specs.Spelled.{channel_spellings}
use Rattle.joined.specs.Joined.{joined_text}
use Rattle.joining.specs.Outcome.{Outcome, refused, record_outcome, join_outcome}
use Rattle.joining.specs.Ready.{Ready}

-- the outcome for two records of the texts `left` and `right`
abbrev pub outcome_of : List ℕ → List ℕ → Text → Text → List ℕ → Outcome
outcome_of left right l r out =
    record_outcome (joined_text (right_step left l right r) l r)
    (written_text (channel_spellings left l) (joined_text (right_step left l right r) l r)) out

-- what is accepted was not refused when it was measured
measured_there : (period : ℕ) (s : List ℕ) (m : Result Measured Refusal) → Measures period s m
    → answer_of (read_outcome period s) ≡ Ok tt → (v : Measured) × (m ≡ Ok v)
measured_there period s (Ok v) h a = (v, refl)
measured_there period s (Err f) h a =
    let q : answer_of (read_outcome period s) ≡ Err f = ap answer_of (measured_refused period s f h) in
    let z : ◌≡◌ {A = ℕ} 0 1 = cc in absurd (omega arith)

module _ (period : ℕ) where
  -- an accepted text, as it was parsed
  module _ (s : List ℕ) (m : Measured) (h : Measures period s (Ok m)) (a : answer_of (read_outcome period s) ≡ Ok tt)
    where
      parsed_text : m.text ≡ text_of period s
      parsed_text = measured_text period s m h a

      parsed_formed : WellFormed m.text
      parsed_formed = rw (ap record_of h.parsed) (read_formed period s (read_accepted period s a).parsed)

      parsed_names : NamesWithin s m.text
      parsed_names = rw (ap record_of h.parsed) (read_names period s (read_accepted period s a).parsed)

  module _ (left right : List ℕ) {b : MeasuredTexts} {lm rm lh rh : List ℕ} (t : Result TwoTexts Refusal)
      (measures : MeasuresTwo period left right b) (loads : Loads period left right lm rm lh rh t) where
    -- refused
    pub judged_refused : (f : Refusal) (x : Result ℕ Refusal) (out : List ℕ) → t ≡ Err f → IsErrAnd x (λ g. g ≡ f)
        → ◌≡◌ {A = Outcome} (record { answer = x; out = out }) (join_outcome period left right out)
    unfolding join_outcome refusal_in refused
    judged_refused f x out e k =
        let (g, told, same) = err_from_is_err_and x k in
        ap (λ (y : Result ℕ Refusal). record { answer = y; out = out }) (told ∙ ap (λ (r : Refusal). Err r) same)
        ∙ sym (judged_by_some (two_judged period left right) _ _ _ (loads.judged ∙ ap (λ (y : Result TwoTexts Refusal). refusal_in (answer_of y)) e))

    -- accepted, with equal channels
    module _ (e : answer_of t ≡ Ok tt) where
      found : none ≡ two_judged period left right
      unfolding refusal_in
      found = sym (loads.judged ∙ ap refusal_in e)

      pub left_there : (v : Measured) × (b.left ≡ Ok v)
      left_there = measured_there period left b.left measures.left_text (judged_none period left right found).left_read

      pub right_there : (v : Measured) × (b.right ≡ Ok v)
      right_there = measured_there period right b.right measures.right_text (judged_none period left right found).right_read

      module _ (l r : Measured) (p : b.left ≡ Ok l) (q : b.right ≡ Ok r) where
        pub judged_ready : Ready left l.text r.text
        judged_ready =
            let j = judged_none period left right found in
            record {
              left_formed = parsed_formed left l (rw p at measures.left_text) j.left_read;
              right_formed = parsed_formed right r (rw q at measures.right_text) j.right_read;
              names = parsed_names left l (rw p at measures.left_text) j.left_read;
            }

        pub judged_joined : {o : Outcome} (out : List ℕ)
            → o ≡ outcome_of left right l.text r.text out
            → o ≡ join_outcome period left right out
        unfolding join_outcome
        judged_joined out d =
            let j = judged_none period left right found in
            d ∙ ap (λ (x : Text). outcome_of left right x r.text out)
            (parsed_text left l (rw p at measures.left_text) j.left_read)
            ∙ ap (λ (x : Text). outcome_of left right (text_of period left) x out)
            (parsed_text right r (rw q at measures.right_text) j.right_read)
            ∙ sym (judged_by_none (two_judged period left right) _ _ found)
