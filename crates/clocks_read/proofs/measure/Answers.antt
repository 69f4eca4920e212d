-- `measure` measures the record that is read: it is well formed, so its states can be counted.
use Rattle.clocks_states.specs.Laws.{countable, counted, count_is}
use Rattle.clocks_read.proofs.Paths.{parsed_formed}
use Rattle.clocks_read.proofs.measure.Goals as goal

pub ranges_of-ranges-requires : goal.ranges_of-ranges-requires
ranges_of-ranges-requires c = countable _ (parsed_formed c.args.period c.args.text.now _ c.in_ok-t.ensures)

pub state_count_of-states-requires : goal.state_count_of-states-requires
state_count_of-states-requires c =
    counted _ (countable _ (parsed_formed c.args.period c.args.text.now _ c.in_ok-t.ensures)) _
    c.ranges_of-ranges.ensures

pub returns : goal.returns
returns c = record {
  parsed = c.in_ok-t.ensures;
  counted = record {
    formed = parsed_formed c.args.period c.args.text.now _ c.in_ok-t.ensures;
    same = c.ranges_of-ranges.ensures;
    count = count_is _ _ c.ranges_of-ranges.ensures _ c.state_count_of-states.ensures;
  };
}
