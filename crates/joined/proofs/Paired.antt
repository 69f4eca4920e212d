-- The steps of two texts whose channels pair up: what joining needs of the map f from the left's steps to the right's
-- (SPECIFICATION 9.1, 9.2). Definition only; that pairing gives such a map is in PairedLaws.antt.
use Rattle.std.specs.Prelude.{◌≡◌, ℕ}
use Rattle.reader_record.specs.declared.Text.{Text}
use Rattle.clocks.specs.States.{input}
use Rattle.pairing.specs.Channels.{Channel}

-- a tick is a tick, a channel of the left is one of the right, with its direction
pub record PairedSteps (f : ℕ → ℕ) (l r : Text) : Type 0 where
  pub tick : f 0 ≡ 0
  pub there : (c : ℕ) → Channel l c → Channel r (f c)
  pub direction : (c : ℕ) → Channel l c → input r (f c) ≡ input l c
