-- join_locations: the pairs passed so far have both invariants; their places are within the lists.
use Prim.Native.Nat.{◌/◌, ◌%◌}
use lib.ListN.{length-set}
use Rattle.reader_record.specs.Record.{no_location}
use Rattle.joined.specs.Joined.{both_constraints}
use Rattle.joining_items.specs.Items.{Nearly}
use Rattle.joining_record.specs.Records.{invariant_at}
use Rattle.joining_items.specs.Laws.{kept_more}
use Rattle.joining_record.specs.Laws.{some_right, left_index, right_index, pair_joinable, pair_near}
use native.Mathlib.Omega.{arith}
use Rattle.joining_record.proofs.join_locations.Goals as goal

pub loop-pair-init : goal.loop-pair-init
loop-pair-init c = (c.no_locations-list.ensures, λ j h. absurd (omega arith))

pub nonzero_div-p : goal.nonzero_div-p
nonzero_div-p c =
    omega (arith, some_right _ _ c.requires)

pub offset_bounds-left-pair : goal.offset_bounds-left-pair
offset_bounds-left-pair c =
    omega (arith, left_index _ _ c.requires c.loop-pair.pair (omega arith))

pub bounds-left-pair : goal.bounds-left-pair
bounds-left-pair c =
    omega (arith, left_index _ _ c.requires c.loop-pair.pair (omega arith))

pub nonzero_rem-q : goal.nonzero_rem-q
nonzero_rem-q c =
    omega (arith, some_right _ _ c.requires)

pub offset_bounds-right-pair : goal.offset_bounds-right-pair
offset_bounds-right-pair c =
    omega (arith, right_index _ _ c.requires c.loop-pair.pair)

pub bounds-right-pair : goal.bounds-right-pair
bounds-right-pair c =
    omega (arith, right_index _ _ c.requires c.loop-pair.pair)

pub join_location-requires : goal.join_location-requires
join_location-requires c =
    let loop = c.loop-pair in
    pair_joinable c.args.l c.args.r c.requires loop.pair (omega arith)

pub loop-pair-preserved : goal.loop-pair-preserved
loop-pair-preserved c =
    let loop = c.loop-pair in
    let a = c.args in (
      simp length-set loop.invariant.0,
      kept_more no_location (λ j x. Nearly (both_constraints a.l.clock_count
          (invariant_at a.l.locations (j / a.r.location_count))
          (invariant_at a.r.locations (j % a.r.location_count))) x.invariant) loop.list loop.pair
          c.join_location.result
          (omega (arith, loop.invariant.0, c.requires.locations)) c.join_location.ensures
          loop.invariant.1,
    )

pub returns : goal.returns
returns c =
    λ i h. pair_near c.args.l c.args.r i _ (c.loop-pair.invariant.1 i
    (omega (arith, h)))
