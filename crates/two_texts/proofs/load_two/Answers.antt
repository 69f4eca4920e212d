-- Codes 24 and 1 to 12 in their order: one law of Paths.antt a path.
use Rattle.std.proofs.Common.{refl, sym, ap, ◌∙◌}
use Rattle.refusals.specs.declared.File.TheVariants.{Left}
use Rattle.refusals.specs.Answers.{answer_of}
use Rattle.two_texts.proofs.Paths.{kept, passed, unread_refused, loaded_refused, loaded_reading, tick_refused, left_too_long, right_too_long, left_refused, both_read}
use Rattle.std.specs.Prelude.{◌≡◌, Ok}
use Rattle.two_texts.proofs.load_two.Goals as goal
use Rattle.two_texts.proofs.load_two.Goals.{After-judge}

-- the left is read
read : (c : After-judge) → c.args.both.left ≡ Ok c.in_ok-ours.ours
read c = kept Left c.args.both.left c.map_err.result c.map_err.ensures.cases c.in_ok-ours.ours c.in_ok-ours.was

pub returns-then-not-is_tick_length : goal.returns-then-not-is_tick_length
returns-then-not-is_tick_length c =
    tick_refused c.args.period c.args.left.now c.args.right.now _ _ _ _ _
    (sym c.is_tick_length.ensures ∙ c.if-not-is_tick_length.true) refl

pub returns-then-left-gt-LARGEST_TEXT : goal.returns-then-left-gt-LARGEST_TEXT
returns-then-left-gt-LARGEST_TEXT c =
    left_too_long c.args.period c.args.left.now c.args.right.now
    (sym c.is_tick_length.ensures ∙ c.if-not-is_tick_length.false) _ _ _ _ _ c.if-left-gt-LARGEST_TEXT.true refl

pub returns-then-right-gt-LARGEST_TEXT : goal.returns-then-right-gt-LARGEST_TEXT
returns-then-right-gt-LARGEST_TEXT c =
    right_too_long c.args.period c.args.left.now c.args.right.now
    (sym c.is_tick_length.ensures ∙ c.if-not-is_tick_length.false) c.if-left-gt-LARGEST_TEXT.false _ _ _ _ _
    c.if-right-gt-LARGEST_TEXT.true refl

pub returns-in_err-ours : goal.returns-in_err-ours
returns-in_err-ours c =
    let left_unread = c.if-left-gt-LARGEST_TEXT.false in
    let right_unread = c.if-right-gt-LARGEST_TEXT.false in
    let (f, is, told) = passed Left c.args.both.left c.map_err.result c.map_err.ensures.cases c.in_err-ours.field-0.0
    c.in_err-ours.was c.from_residual.result c.from_residual.ensures.1 in
    left_refused _ c.args.left.now c.args.right.now (sym c.is_tick_length.ensures ∙ c.if-not-is_tick_length.false)
    left_unread right_unread _ _ _ _ _ _
    (unread_refused _ _ c.args.both.left c.requires.0.left_text Left f is) told

pub returns-in_err-map_err : goal.returns-in_err-map_err
returns-in_err-map_err c =
    let left_fits = c.if-left-gt-LARGEST_TEXT.false in
    let right_fits = c.if-right-gt-LARGEST_TEXT.false in
    let read_left = read (goal.at.returns-in_err-map_err c).After-judge in
    let (f, is, told) = passed Left c.judge.result c.map_err-2.result c.map_err-2.ensures.cases
    c.in_err-map_err.field-0.0 c.in_err-map_err.was c.from_residual-in_err-map_err.result
    c.from_residual-in_err-map_err.ensures.1 in
    left_refused _ c.args.left.now c.args.right.now (sym c.is_tick_length.ensures ∙ c.if-not-is_tick_length.false)
    left_fits right_fits _ _ _ _ _ _
    (loaded_refused _ _ c.in_ok-ours.ours (rw read_left at c.requires.0.left_text) _ _ c.judge.result _ _ c.judge.ensures.loading
    Left f is) told

pub load_right-requires : goal.load_right-requires
load_right-requires c =
    let pre = c.requires in
    let read_left = read (goal.at.load_right-requires c).After-judge in
    let judged = kept Left c.judge.result c.map_err-2.result c.map_err-2.ensures.cases c.in_ok-map_err.field-0
    c.in_ok-map_err.was in (
      loaded_reading _ _ c.in_ok-ours.ours (rw read_left at pre.0.left_text) _ _ c.judge.result _ _ c.judge.ensures.loading
          (ap answer_of judged),
      pre.0.right_text,
      pre.1.right,
    )

pub returns : goal.returns
returns c =
    let pre = c.requires in
    let left_read = c.if-left-gt-LARGEST_TEXT.false in
    let right_read = c.if-right-gt-LARGEST_TEXT.false in
    let read_left = read (goal.at.returns c).After-judge in
    let judged = kept Left c.judge.result c.map_err-2.result c.map_err-2.ensures.cases c.in_ok-map_err.field-0
    c.in_ok-map_err.was in
    both_read _ c.args.left.now c.args.right.now (sym c.is_tick_length.ensures ∙ c.if-not-is_tick_length.false)
    left_read right_read c.in_ok-ours.ours (rw read_left at pre.0.left_text) _ _
    c.judge.result _ _ c.judge.ensures.loading _ _ _ (ap answer_of judged) (rw read_left at pre.1.left) c.load_right.ensures
