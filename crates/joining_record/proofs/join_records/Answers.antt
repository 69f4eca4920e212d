-- join_records: too many clocks or pairs of locations refute `counts_fit`; else join_within has its requirements.
use Rattle.joining_record.specs.Records.{JoinsRecords}
use Rattle.joining_edges.specs.Edges.{by_map}
use Rattle.joining_record.specs.Laws.{over_clocks, over_locations, pairs_small}
use native.Mathlib.Omega.{arith}
use Rattle.joining_record.proofs.join_records.Goals as goal

pub overflow_add-l : goal.overflow_add-l
overflow_add-l c =
    omega (arith, c.requires.0.clocks, c.requires.1.clocks)

pub returns-then-l-r-gt-CLOCK_LIMIT : goal.returns-then-l-r-gt-CLOCK_LIMIT
unfolding JoinsRecords
returns-then-l-r-gt-CLOCK_LIMIT c =
    let a = c.args in
    over_clocks (by_map a.map) a.l a.r c.if-l-r-gt-CLOCK_LIMIT.true

pub overflow_mul-l : goal.overflow_mul-l
overflow_mul-l c =
    omega (arith, pairs_small _ _ c.requires.0 c.requires.1)

pub returns-then-l-r-gt-LOCATION_LIMIT : goal.returns-then-l-r-gt-LOCATION_LIMIT
unfolding JoinsRecords
returns-then-l-r-gt-LOCATION_LIMIT c =
    let a = c.args in
    over_locations (by_map a.map) a.l a.r (omega (arith, c.if-l-r-gt-LOCATION_LIMIT.true))

pub join_within-requires : goal.join_within-requires
join_within-requires c =
    let if1 = c.if-l-r-gt-CLOCK_LIMIT in
    record {
      left = c.requires.0;
      right = c.requires.1;
      clocks = if1.false;
      locations = omega (arith, c.if-l-r-gt-LOCATION_LIMIT.false);
    }
