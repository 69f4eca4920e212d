use mathlib.Core.Path.{ap}
use native.Mathlib.Omega.{arith}
use lib.ListN.{length}
use Rattle.bitmaps.specs.BitLaws.{length_tab}
use Rattle.safe_states.proofs.Paths.{ready_bounded, ready_bitmap, ready_fits, ready_safe, ready_start, ready_found}
use Rattle.clocks.specs.States.{input}
use Rattle.clocks_states.specs.Laws.{inputs_done}
use Rattle.limits.specs.Limits.{step_limit}
use Rattle.safe_states.proofs.found.Goals as goal

pub inputs_of-inputs-requires : goal.inputs_of-inputs-requires
inputs_of-inputs-requires c = c.requires.accepted.formed.channels

pub overflow_add-steps : goal.overflow_add-steps
overflow_add-steps c = omega (arith, c.requires.accepted.formed.channels)

pub safe-count-requires : goal.safe-count-requires
safe-count-requires c =
    let args = c.args in
    let pre = c.requires in
    let inputs = inputs_done args.t _ c.inputs_of-inputs.ensures in (
      ready_bounded pre,
      (
        omega (arith, pre.accepted.formed.channels, ap length inputs, length_tab (input args.t) 0 step_limit),
        (ready_bitmap pre, omega (arith, pre.long, pre.count)),
      ),
    )

pub first_of-first-requires : goal.first_of-first-requires
first_of-first-requires c = ready_fits c.requires

pub get-requires : goal.get-requires
get-requires c =
    let inputs = inputs_done c.args.t _ c.inputs_of-inputs.ensures in
    let kept = ready_safe c.requires c.inputs_of-inputs.result _ c.safe-count.result inputs c.safe-count.ensures
    in
    ready_start c.requires _ kept.0 _ c.first_of-first.ensures

pub returns : goal.returns
returns c =
    let inputs = inputs_done c.args.t _ c.inputs_of-inputs.ensures in
    let kept = ready_safe c.requires c.inputs_of-inputs.result _ c.safe-count.result inputs c.safe-count.ensures
    in
    ready_found c.requires _ kept.0 c.first_of-first.result c.first_of-first.ensures c.safe-count.result
    c.get.result kept.1 c.get.ensures
