-- What SPECIFICATION 17.2 asks of the outcome of the check: from which answer it gives, and what that means.
use Rattle.std.specs.Prelude.{◌≡◌, refl, List, ℕ, Result, Ok, Err}
use Rattle.std.proofs.Common.{sym, ap, ◌∙◌, arith}
use Rattle.refusals.specs.declared.Refusal.{Refusal}
use Rattle.systems.specs.Definitions.{Signature, System, tick, LargestSafeSet, Refines, StepRules}
use Rattle.bitmaps.specs.Packed.{bytes_for}
use Rattle.tables.specs.Outcome.{Checked}
use Rattle.demands.specs.Words.{Consistent, LongEnough, KeepWritten, RightForm, Denotes, Passes}
use Rattle.demands.specs.Demands.{CheckDemand}
use Rattle.demands.specs.Answers.{CheckAnswers}

not_accepted : {X : Type 0} (a : Result ℕ Refusal) (r : Refusal) (n : ℕ) → a ≡ Err r → a ≡ Ok n → X
not_accepted a r n e f = let z : ◌≡◌ {A = ℕ} 0 1 = cc in absurd (omega arith)

same_count : (a : Result ℕ Refusal) (m n : ℕ) → a ≡ Ok m → a ≡ Ok n → n ≡ m
same_count a m n e f = cc

-- a relation meets the rules exactly when each pair of it passes
module _ {A : Signature} {M N : System A} {S : M.State → Type 0} {Q : M.State → N.State → Type 0} where
  all_pass : ((x : M.State) (y : N.State) → Q x y → Passes M N S Q x y) → Refines M N S Q
  all_pass p = record {
    pair = λ x y q. (p x y q).allowed;
    rule_1 = λ x y c v q i e. ((p x y q).rules c).rule_1 v i e;
    rule_2 = λ x y c u q o e s. ((p x y q).rules c).rule_2 u o e s;
    rule_3 = λ x y u q e s. ((p x y q).rules tick).rule_3 u refl e s;
  }

  step_meets : Refines M N S Q → (x : M.State) (y : N.State) (c : ℕ) → Q x y → StepRules M N S Q x y c
  step_meets r x y c q = record {
    rule_1 = λ v i e. r.rule_1 x y c v q i e;
    rule_2 = λ u o e s. r.rule_2 x y c u q o e s;
    rule_3 = λ u z e s.
        let (v, m, t) = r.rule_3 x y u q (ap (M.next x) (sym z) ∙ e) s in
        (v, ap (N.next y) z ∙ m, t);
  }

module _ {A : Signature} (M N : System A) (states right_states : ℕ) (number : M.State → ℕ)
    (right_number : N.State → ℕ) (consistent : Consistent M) (keep given : List ℕ)
    (form : RightForm states right_states given) (o : Checked) where
  abbrev Given : M.State → N.State → Type 0
  Given = Denotes states right_states number right_number given

  -- a refusal for a reason that the demand rules out
  refused_demand : (r : Refusal) → o.answer ≡ Err r
      → ((S : M.State → Type 0) → LargestSafeSet M S → Given M.start N.start → Refines M N S Given → ⊥)
      → KeepWritten M states number keep o.keep
      → CheckDemand M N states right_states number right_number keep given o
  refused_demand r e n k = record {
    accepted = λ S h. (λ (m, f). not_accepted o.answer r m e f, λ (s, z). absurd (n S h s z));
    count = λ m f. not_accepted o.answer r m e f;
    kept = k;
  }

  -- what the check answers settles what is asked
  pub answers_demand : LongEnough o.answer
      → CheckAnswers M N states right_states number right_number keep given o
      → CheckDemand M N states right_states number right_number keep given o
  answers_demand l (CheckAnswers.thirteen h z) =
      absurd (l.keep (bytes_for states) (ap (λ (x : Checked). x.answer) z))
  answers_demand l (CheckAnswers.sixteen h n z) = absurd (n form)
  answers_demand l (CheckAnswers.seventeen h f n e k) = absurd (n consistent)
  answers_demand l (CheckAnswers.eighteen h f c n e k) = refused_demand _ e (λ S p s r. n s) k
  answers_demand l (CheckAnswers.nineteen h f c s x y n e k) =
      refused_demand _ e (λ S p z r. (n S p).not_allowed (r.pair x y (n S p).pair)) k
  answers_demand l (CheckAnswers.twenty h f c s x y d n e k) =
      refused_demand _ e (λ S p z r. (n S p).broken (step_meets r x y d (n S p).pair)) k
  answers_demand l (CheckAnswers.accepted h f c s p e k) = record {
    accepted = λ S q. (λ z. (s, all_pass (p S q)), λ z. (_, e));
    count = λ n z. same_count o.answer _ n e z;
    kept = k;
  }
