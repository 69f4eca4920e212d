-- The ends of the code's paths.
use Rattle.std.specs.Prelude.{◌≡◌, List, ℕ, Result, Ok, Err, ⊤, MatchResult, IsErrAnd}
use Rattle.std.proofs.Common.{refl, sym, ap, ◌∙◌, arith}
use Rattle.std.proofs.lemmas.Result.{err_from_is_err_and}
use Rattle.refusals.specs.declared.Refusal.{Refusal}
use Rattle.refusals.specs.Answers.{answer_of}
use Rattle.reader_record.specs.declared.Text.{Text}
use Rattle.reader_record.specs.Formed.{WellFormed}
use Rattle.reader.specs.Reading.{record_of, read_text}
use Rattle.reader_formed.proofs.Formed.{read_formed}
use Rattle.clocks.specs.declared.Flaw.{Flaw}
use Rattle.clocks.specs.States.{state_count, judgement}
use Rattle.clocks.specs.Encoding.{judged_table, judged_holds}
use Rattle.clocks_read.specs.declared.Reading.{Reading}
use Rattle.clocks_read.specs.Reading.{flaw_refusal, judged_reading}
use Rattle.clocks_read.specs.Loading.{loading, judged_loading, parsed_loading}
use Rattle.clocks_read.specs.declared.Measured.{Measured}
use Rattle.clocks_read.specs.Measured.{measured_loading}

-- the judgement with its flaw as a refusal
abbrev pub mapped : Result ⊤ Flaw → Result ⊤ Refusal
mapped (Ok u) = Ok u
mapped (Err f) = Err (flaw_refusal f)

pub map_is : (j : Result ⊤ Flaw) (r : Result ⊤ Refusal)
    → MatchResult j (λ x. r ≡ Ok x) (λ e. IsErrAnd r (λ f. f ≡ flaw_refusal e)) → r ≡ mapped j
map_is (Ok u) r h = h
map_is (Err e) r h = let (f, is, same) = err_from_is_err_and r h in is ∙ ap (λ (g : Refusal). Err g) same

refused_reading : (t : Text) (j : Result ⊤ Flaw) (f : Refusal) → mapped j ≡ Err f → judged_reading j t ≡ Err f
unfolding judged_reading
refused_reading t (Ok u) f i = let z : ◌≡◌ {A = ℕ} 0 1 = cc in absurd (omega arith)
refused_reading t (Err g) f i = let k : flaw_refusal g ≡ f = cc in rw k

accepted_reading : (t : Text) (j : Result ⊤ Flaw) → mapped j ≡ Ok tt
    → judged_reading j t ≡ Ok (record { text = t; states = state_count t })
unfolding judged_reading
accepted_reading t (Ok u) i = refl
accepted_reading t (Err g) i = let z : ◌≡◌ {A = ℕ} 0 1 = cc in absurd (omega arith)

-- what `judge` leaves, by the answer of the judgement
module _ (t : Text) (m h m' h' : List ℕ) (j : Result ⊤ Flaw) (r : Result ⊤ Refusal)
    (e : (j ≡ judgement t) × (m' ≡ judged_table t m) × (h' ≡ judged_holds t h))
    (q : MatchResult j (λ x. r ≡ Ok x) (λ e. IsErrAnd r (λ f. f ≡ flaw_refusal e))) where
  pub judge_done : (x : Result Reading Refusal) → judged_reading j t ≡ x → loading x m' h' ≡ judged_loading t m h
  unfolding judged_loading
  judge_done x i = let (a, b, c) = e in rw (b, c, ← i, a)

  pub judge_refused : (f : Refusal) (x : Result Reading Refusal) → r ≡ Err f → IsErrAnd x (λ g. g ≡ f)
      → loading x m' h' ≡ judged_loading t m h
  judge_refused f x i k =
      let (g, is, same) = err_from_is_err_and x k in
      judge_done x (refused_reading t j f (sym (map_is j r q) ∙ i) ∙ sym (is ∙ ap (λ (y : Refusal). Err y) same))

  pub judge_accepted : (n : ℕ) → r ≡ Ok tt → n ≡ state_count t
      → loading (Ok (record { text = t; states = n })) m' h' ≡ judged_loading t m h
  judge_accepted n i k =
      judge_done _ (accepted_reading t j (sym (map_is j r q) ∙ i) ∙ rw k)

-- what is judged is the text that is measured; one that is refused stays so
pub measured_is : (q : Result Measured Refusal) (v : Measured) (m h : List ℕ) → q ≡ Ok v
    → judged_loading v.text m h ≡ measured_loading q m h
unfolding parsed_loading
measured_is q v m h e = rw e

pub measured_stays : (q : Result Measured Refusal) (f : Refusal) (m h : List ℕ) (r : Result Reading Refusal) → q ≡ Err f
    → IsErrAnd r (λ g. g ≡ f) → loading r m h ≡ measured_loading q m h
unfolding parsed_loading
measured_stays q f m h r e k = let (g, is, same) = err_from_is_err_and r k in rw (e, is, same)

-- what is read is well formed
pub parsed_formed : (period : ℕ) (s : List ℕ) (t : Text) → Ok t ≡ read_text period s → WellFormed t
parsed_formed period s t e =
    rw (ap record_of e) (read_formed period s (sym (ap answer_of e)))
