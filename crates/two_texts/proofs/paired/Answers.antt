-- Code 12 or the right table by the left steps: one law of Paths.antt a path.
use Rattle.std.specs.Prelude.{Ok, Err}
use Rattle.std.proofs.Common.{ap, ◌∙◌}
use Rattle.std.proofs.lemmas.Result.{err_from_is_err_and}
use native.Mathlib.Omega.{arith}
use Rattle.refusals.specs.declared.Refusal.{Refusal}
use Rattle.two_texts.specs.declared.TwoTexts.{TwoTexts}
use Rattle.two_texts.proofs.Paths.{reading_formed, reading_sized, paired_refused, paired_renumbers, paired_accepted}
use Rattle.two_texts.proofs.paired.Goals as goal

pub pair_channels-pairing-requires : goal.pair_channels-pairing-requires
pair_channels-pairing-requires c =
    let pre = c.requires in
    (reading_formed _ _ _ pre.0, reading_formed _ _ _ pre.1)

pub overflow_add-width : goal.overflow_add-width
overflow_add-width c =
    omega (arith, (reading_formed _ _ _ c.requires.0).channels)

pub renumber-requires : goal.renumber-requires
renumber-requires c =
    let args = c.args in
    paired_renumbers args.period args.left.now args.ours args.right.now args.theirs c.requires.0 c.requires.1
    c.pair_channels-pairing.result c.pair_channels-pairing.ensures c.in_ok-pairing.was args.moves.now c.requires.2

pub accepted-requires : goal.accepted-requires
accepted-requires c =
    let pre = c.requires in
    (reading_sized _ _ _ pre.0, reading_sized _ _ _ pre.1)

pub returns-in_err-pairing : goal.returns-in_err-pairing
returns-in_err-pairing c =
    let args = c.args in
    let (why, told, same) = err_from_is_err_and c.from_residual.result c.from_residual.ensures.1 in
    paired_refused args.period args.left.now args.ours args.right.now args.theirs c.requires.0 c.requires.1
    c.pair_channels-pairing.result c.pair_channels-pairing.ensures _ _ _ c.in_err-pairing.was
    (told ∙ ap (λ (f : Refusal). Err f) same)

pub returns : goal.returns
returns c =
    let args = c.args in
    paired_accepted args.period args.left.now args.ours args.right.now args.theirs c.requires.0 c.requires.1
    c.pair_channels-pairing.result c.pair_channels-pairing.ensures c.in_ok-pairing.was _ _ _
    c.renumber.ensures (ap (λ (t : TwoTexts). Ok t) c.accepted.ensures)
