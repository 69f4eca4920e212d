-- What a joined text is (SPECIFICATION 17.10, 18.1), over records. Definition only.
use Rattle.std.specs.Prelude.{List, ℕ}
use Rattle.reader_record.specs.declared.Text.{Text}
use Rattle.clocks.specs.Accepted.{Accepted}
use Rattle.pairing.specs.Channels.{EqualChannels, right_step}
use Rattle.joined.proofs.Conjunction.{ConjunctionOf}

-- the text z, whose record is x, joins the texts s and u, whose records l and r are accepted: x is accepted, z has
-- equal channels with both, and x is the conjunction of l and r
pub record JoinsTexts (s u z : List ℕ) (l r x : Text) (a : Accepted l) (b : Accepted r) : Type 1 where
  pub accepted : Accepted x
  pub left_channels : EqualChannels z x s l
  pub right_channels : EqualChannels z x u r
  pub conjunction : ConjunctionOf (right_step s l u r) l r x a b
