-- Codes 2 to 11 of the right, then what pairing promises: one law of Paths.antt a path.
use Rattle.std.proofs.Common.{ap}
use Rattle.refusals.specs.declared.File.TheVariants.{Right}
use Rattle.refusals.specs.Answers.{answer_of}
use Rattle.two_texts.proofs.Paths.{kept, passed, unread_refused, loaded_refused, loaded_reading, loaded_wide, right_refused, right_paired}
use Rattle.two_texts.proofs.load_right.Goals as goal

pub returns-in_err-m : goal.returns-in_err-m
returns-in_err-m c =
    let pre = c.requires in
    let (f, is, told) = passed Right c.args.theirs c.map_err.result c.map_err.ensures.cases c.in_err-m.field-0.0
    c.in_err-m.was c.from_residual.result c.from_residual.ensures.1 in
    right_refused _ _ _ pre.0 _ _ _ _ _ (unread_refused _ _ c.args.theirs pre.1 Right f is) told

pub returns-in_err-map_err : goal.returns-in_err-map_err
returns-in_err-map_err c =
    let pre = c.requires in
    let read = kept Right c.args.theirs c.map_err.result c.map_err.ensures.cases c.in_ok-m.m c.in_ok-m.was in
    let (f, is, told) = passed Right c.judge.result c.map_err-2.result c.map_err-2.ensures.cases
    c.in_err-map_err.field-0.0 c.in_err-map_err.was c.from_residual-in_err-map_err.result
    c.from_residual-in_err-map_err.ensures.1 in
    right_refused _ _ _ pre.0 _ _ _ _ _
    (loaded_refused _ _ c.in_ok-m.m (rw read at pre.1) _ _ c.judge.result _ _ c.judge.ensures.loading Right f is) told

pub paired-requires : goal.paired-requires
paired-requires c =
    let pre = c.requires in
    let read = kept Right c.args.theirs c.map_err.result c.map_err.ensures.cases c.in_ok-m.m c.in_ok-m.was in
    let judged = kept Right c.judge.result c.map_err-2.result c.map_err-2.ensures.cases c.in_ok-map_err.field-0 c.in_ok-map_err.was in (
      pre.0,
      loaded_reading _ _ c.in_ok-m.m (rw read at pre.1) _ _ c.judge.result _ _ c.judge.ensures.loading (ap answer_of judged),
      loaded_wide _ _ c.in_ok-m.m (rw read at pre.1) _ _ c.judge.result _ _ c.judge.ensures.loading (ap answer_of judged)
          (rw read at pre.2),
    )

pub returns : goal.returns
returns c =
    let pre = c.requires in
    let read = kept Right c.args.theirs c.map_err.result c.map_err.ensures.cases c.in_ok-m.m c.in_ok-m.was in
    let judged = kept Right c.judge.result c.map_err-2.result c.map_err-2.ensures.cases c.in_ok-map_err.field-0 c.in_ok-map_err.was in
    right_paired _ _ _ pre.0 _ c.in_ok-m.m (rw read at pre.1) _ _ c.judge.result _ _ c.judge.ensures.loading _ _ (ap answer_of judged)
    (rw read at pre.2) c.paired.ensures
