-- What is promised of the joined record: statements over the definitions of specs/Joined.antt, Paired.antt, Alike.antt
-- and Conjunction.antt; each is proved by the laws that it cites. f gives the right's number of a left's step.
use Rattle.std.specs.Prelude.{List, ℕ, ◌≤◌, T}
use Rattle.limits.specs.Limits.{state_limit}
use Rattle.reader_record.specs.declared.Text.{Text}
use Rattle.clocks.specs.States.{state_count}
use Rattle.clocks.specs.Accepted.{Accepted}
use Rattle.pairing.specs.Channels.{WellNamed, EqualChannels, right_step}
use Rattle.joined.specs.Joined.{joined_text, counts_fit}
use Rattle.joined.proofs.Paired.{PairedSteps}
use Rattle.joined.proofs.Alike.{Alike}
use Rattle.joined.proofs.Conjunction.{ConjunctionOf}
use Rattle.joined.proofs.AlikeLaws.{same_text}
use Rattle.joined.proofs.PairedLaws.{right_steps}
use Rattle.joined.proofs.Judged as judged
use Rattle.joined.proofs.Bisimilar.{same_steps, text_bisimulation, text_satisfied, text_held}

-- where the two texts joined are within the limits
module _ (f : ℕ → ℕ) (l r : Text) (a : Accepted l) (b : Accepted r) (p : PairedSteps f l r)
    (s : T (counts_fit (joined_text f l r))) where
  -- every record x that says what they say is the conjunction of the two (SPECIFICATION 18.1)
  pub text_conjunction : (x : Text) → Alike (joined_text f l r) x → ConjunctionOf f l r x a b
  text_conjunction x h = record {
    steps = same_steps f l r a b p s x h;
    matched = text_bisimulation f l r a b p s x h;
    satisfied = text_satisfied f l r a b p s x h;
    held = text_held f l r a b p s x h;
  }

  -- and they are accepted, once their own states are within the limit: neither 10 nor 11 (SPECIFICATION 7.1, 18.8)
  pub text_accepted : state_count (joined_text f l r) ≤ state_limit → Accepted (joined_text f l r)
  text_accepted = judged.text_accepted f l r a b p s

-- so of two texts s and u with equal channels, which pair up by name (SPECIFICATION 9.1)
pub texts_conjunction : (s : List ℕ) (l : Text) (u : List ℕ) (r : Text) → WellNamed s l → WellNamed u r
    → EqualChannels s l u r → (a : Accepted l) (b : Accepted r) → T (counts_fit (joined_text (right_step s l u r) l r))
    → ConjunctionOf (right_step s l u r) l r (joined_text (right_step s l u r) l r) a b
texts_conjunction s l u r w x h a b fit =
    text_conjunction (right_step s l u r) l r a b (right_steps s l u r w x h) fit (joined_text (right_step s l u r) l r)
    (same_text (joined_text (right_step s l u r) l r))
