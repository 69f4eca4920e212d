-- Texts with equal channels have steps that pair up, by name.
use Rattle.std.proofs.Common.{sym, subst}
use Rattle.std.specs.Prelude.{List, ℕ, T}
use Rattle.reader_record.specs.declared.Text.{Text}
use Rattle.clocks.specs.States.{input}
use Rattle.clocks.proofs.Judgement.{input_known}
use Rattle.pairing.specs.Channels.{Channel, WellNamed, EqualChannels, right_step}
use Rattle.pairing.specs.Equal.{tick_stays, step_there, step_input}
use Rattle.joined.proofs.Paired.{PairedSteps}

pub input_channel : (t : Text) (c : ℕ) → T (input t c) → Channel t c
input_channel t c i = let (a, b) = input_known t c i in record { from_one = a; declared = b }

pub paired_inputs : {f : ℕ → ℕ} {l r : Text} → PairedSteps f l r → (c : ℕ) → T (input l c) → T (input r (f c))
paired_inputs {l} p c i = subst T (sym (p.direction c (input_channel l c i))) i

pub right_steps : (s : List ℕ) (l : Text) (u : List ℕ) (r : Text) → WellNamed s l → WellNamed u r
    → EqualChannels s l u r → PairedSteps (right_step s l u r) l r
right_steps s l u r w x h = record {
  tick = tick_stays s l u r w x h;
  there = step_there s l u r w x h;
  direction = step_input s l u r w x h;
}
