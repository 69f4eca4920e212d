-- A well-formed record is `Readable`: it is read back from its text.
use Rattle.std.specs.Prelude.{◌≡◌, refl, T}
use Rattle.std.proofs.Common.{arith}
use Rattle.reader_record.specs.Record.{edge, channel, direction_of}
use Rattle.reader_record.specs.Formed.{WellFormed, agrees}
use Rattle.reader_record.specs.declared.Direction.{Direction}
use Rattle.reader_record.specs.declared.Direction.TheVariants as direction
use Rattle.reader_record.specs.declared.Label.{Label}
use Rattle.reader_record.specs.declared.Label.TheVariants.{Input, Output}
use Rattle.reader_record.specs.declared.Text.{Text}
use Rattle.written.proofs.Same.{is_input_label}
use Rattle.written.proofs.Good.{Readable}

-- the marks of two labels that agree with one direction
same_mark : (a b : Label) (d : Direction) → T (agrees a d) → T (agrees b d) → is_input_label a ≡ is_input_label b
unfolding agrees is_input_label
same_mark (Input c) (Input e) d x y = refl
same_mark (Output c) (Output e) d x y = refl
same_mark (Input c) (Output e) direction.Unused x y = absurd x
same_mark (Input c) (Output e) direction.Input x y = absurd y
same_mark (Input c) (Output e) direction.Output x y = absurd x
same_mark (Output c) (Input e) direction.Unused x y = absurd x
same_mark (Output c) (Input e) direction.Input x y = absurd x
same_mark (Output c) (Input e) direction.Output x y = absurd y

pub formed_readable : (t : Text) → WellFormed t → Readable t
formed_readable t f = record {
  channels = f.channels;
  clocks = f.clocks;
  locations = f.locations;
  edges = f.edges;
  init = f.init;
  invariant = f.invariant;
  upper = f.upper;
  guard = f.guard;
  source = f.source;
  target = f.target;
  label = f.label;
  assigned = λ i h k l. omega (arith, (f.assigned i h).written k, (f.assigned i h).allowed k);
  one_mark = λ i j h l e.
      let x : T (agrees (edge t i).label (direction_of t (channel (edge t j).label))) = rw e at (f.direction i h) in
      same_mark (edge t i).label (edge t j).label (direction_of t (channel (edge t j).label)) x (f.direction j l);
}
