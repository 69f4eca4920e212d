-- What is promised of joining two texts (SPECIFICATION 12.10, 17.10, 18): when codes 25 and 26 come, and what the joined
-- text means. Definitions only: the theorem is in proofs/Guarantees.antt.
use Rattle.std.specs.Prelude.{◌≡◌, ◌↔◌, List, ◌++◌, ℕ, ◌≤◌, ◌<◌, length, take, drop, Ok, Err}
use Rattle.std.proofs.Math.Option.{none}
use Rattle.limits.specs.Limits.{shortest_tick, largest_text, state_limit}
use Rattle.refusals.specs.declared.File.TheVariants.{None}
use Rattle.refusals.specs.declared.Refusal.{Refusal}
use Rattle.refusals.specs.Refusals.{code, file, limit_exceeded, out_too_short}
use Rattle.systems.specs.Definitions.{Implementation, Satisfies}
use Rattle.conjunction.specs.Definitions.{SameSignature}
use Rattle.conjunction.proofs.Conjunction.{carried}
use Rattle.reader_record.specs.declared.Text.{Text}
use Rattle.clocks.specs.States.{state_count}
use Rattle.clocks.proofs.Contract.{signature}
use Rattle.pairing.specs.Channels as channels
use Rattle.two_texts.specs.Two.{text_of, two_judged}
use Rattle.joined.specs.Joined.{CountsFit}
use Rattle.joining.specs.Outcome.{Outcome, joined_record, joined_bytes}
use Rattle.guarantees.specs.Texts.{AcceptedText, meaning, right_meaning}

-- a joined record and the text that is written for it pass no limit (SPECIFICATION 4.3, 18.8)
pub record Within (t : Text) (z : List ℕ) : Type 0 where
  pub counts : CountsFit t
  pub states : state_count t ≤ state_limit
  pub bytes : length z ≤ largest_text

-- two texts at one tick length, `period` (SPECIFICATION 4.7)
module _ (period : ℕ) (left right : List ℕ) where
  -- the text z joins them (SPECIFICATION 17.10, 18.1): with tick length 1 it is accepted, it has equal channels with
  -- both, and an implementation satisfies it exactly if it satisfies both; the three are over one signature
  pub record Joins (a : AcceptedText period left) (b : AcceptedText period right) (z : List ℕ) : Type 1 where
    pub accepted : AcceptedText shortest_tick z
    pub with_left : channels.EqualChannels z (text_of shortest_tick z) left (text_of period left)
    pub with_right : channels.EqualChannels z (text_of shortest_tick z) right (text_of period right)
    pub steps : SameSignature (signature (text_of period left)) (signature (text_of shortest_tick z))
    pub exactly : (I : Implementation (signature (text_of period left)))
        → Satisfies (carried steps I) (meaning shortest_tick z accepted)
        ↔ (Satisfies I (meaning period left a) × Satisfies I (right_meaning period left right b))

  -- the joined text passes no limit, where codes 24 and 1 to 12 find nothing
  pub record Joinable : Type 0 where
    pub judged : none ≡ two_judged period left right
    pub within : Within (joined_record period left right) (joined_bytes period left right)

  -- the outcome o of joining them, with the slice `out`
  pub record JoinDemand (out : List ℕ) (o : Outcome) : Type 1 where
    -- 25: exactly where codes 24 and 1 to 12 find nothing and a limit is passed
    pub limit : (o.answer ≡ Err limit_exceeded) ↔ ((none ≡ two_judged period left right)
        × (Within (joined_record period left right) (joined_bytes period left right) → ⊥))
    -- 26: exactly where no limit is passed and the slice has fewer bytes than the text, with their number
    pub short : (n : ℕ) → (o.answer ≡ Err (out_too_short n))
        ↔ (Joinable × (n ≡ length (joined_bytes period left right)) × (length out < n))
    -- and neither comes with a file, so that these are all the refusals by 25 and 26 (SPECIFICATION 13.2)
    pub of_none : (r : Refusal) → o.answer ≡ Err r → code limit_exceeded ≤ code r → file r ≡ None
    -- a length: exactly where the slice has so many bytes
    pub long : (n : ℕ) → (o.answer ≡ Ok n)
        ↔ (Joinable × (n ≡ length (joined_bytes period left right)) × (n ≤ length out))
    -- then the text is in front of the bytes that were there, and it joins the two texts
    pub text : (n : ℕ) → o.answer ≡ Ok n → o.out ≡ joined_bytes period left right ++ drop n out
    pub joins : (n : ℕ) → o.answer ≡ Ok n
        → (a : AcceptedText period left) × (b : AcceptedText period right) × Joins a b (take n o.out)
    -- every refusal leaves the slice as it came
    pub untouched : ((n : ℕ) → o.answer ≡ Ok n → ⊥) → o.out ≡ out
