-- Two texts that are refused, and two that are joined by their records.
use Rattle.std.proofs.Common.{refl, ap}
use Rattle.refusals.specs.Answers.{answer_of}
use Rattle.joining.proofs.Judged.{judged_refused, left_there, right_there, judged_ready, judged_joined}
use Rattle.joining.proofs.join.Goals as goal

pub returns-in_err-load_two : goal.returns-in_err-load_two
returns-in_err-load_two c =
    let args = c.args in
    judged_refused args.period args.left.now args.right.now c.load_two.result c.requires.0 c.load_two.ensures
    c.in_err-load_two.field-0.0 c.from_residual.result args.out.now c.in_err-load_two.was c.from_residual.ensures.1

pub unwrap-ours-requires : goal.unwrap-ours-requires
unwrap-ours-requires c =
    let args = c.args in
    let (v, e) = left_there args.period args.left.now args.right.now c.load_two.result c.requires.0 c.load_two.ensures
    (ap answer_of c.in_ok-load_two.was) in
    rw e refl

pub unwrap-theirs-requires : goal.unwrap-theirs-requires
unwrap-theirs-requires c =
    let args = c.args in
    let (v, e) = right_there args.period args.left.now args.right.now c.load_two.result c.requires.0 c.load_two.ensures
    (ap answer_of c.in_ok-load_two.was) in
    rw e refl

pub join_accepted-requires : goal.join_accepted-requires
join_accepted-requires c =
    let args = c.args in
    judged_ready args.period args.left.now args.right.now c.load_two.result c.requires.0 c.load_two.ensures
    (ap answer_of c.in_ok-load_two.was) _ _ c.unwrap-ours.ensures c.unwrap-theirs.ensures

pub returns : goal.returns
returns c =
    let args = c.args in
    judged_joined args.period args.left.now args.right.now c.load_two.result c.requires.0 c.load_two.ensures
    (ap answer_of c.in_ok-load_two.was) _ _ c.unwrap-ours.ensures c.unwrap-theirs.ensures args.out.now
    c.join_accepted.ensures
