-- With fewer than u underscores some name is a channel's.
use native.Mathlib.Omega.{arith}
use native.Mathlib.Numerals.{unary_clauses}
use mathlib.Core.Path.{◌≡◌, sym, ap, ◌∙◌}
use mathlib.Core.Bool.{not}
use Prim.Native.Nat.{◌+◌, suc}
use Rattle.written.specs.Underscores.{underscores}
use Rattle.writer_names.proofs.Loops.{least_yes, least_no, least_end}
use Rattle.writer_names.proofs.underscores.Invariants.{free}
use Rattle.writer_names.proofs.underscores.Goals as goal

pub loop-u-init : goal.loop-u-init
loop-u-init c = simp unary_clauses

pub returns-then-not-does_clash : goal.returns-then-not-does_clash
unfolding underscores
returns-then-not-does_clash c =
    let loop = c.loop-u in
    let args = c.args in
    sym (least_yes (free args.s.now args.channels args.count args.clocks args.locations) loop.u
    (suc args.count) (omega arith) (ap not (sym c.does_clash.ensures ∙ c.if-not-does_clash.true))) ∙ loop.invariant

pub loop-u-preserved : goal.loop-u-preserved
loop-u-preserved c =
    let loop = c.loop-u in
    let args = c.args in
    sym (least_no (free args.s.now args.channels args.count args.clocks args.locations) loop.u
    (suc args.count) (omega arith) (ap not (sym c.does_clash.ensures ∙ c.if-not-does_clash.false)))
    ∙ loop.invariant

pub returns : goal.returns
unfolding underscores
returns c =
    let loop = c.loop-u in
    let args = c.args in
    let e : args.count + 1 ≡ loop.u = omega arith in
    e ∙ sym (least_end (free args.s.now args.channels args.count args.clocks args.locations) loop.u
    (suc args.count) (omega arith)) ∙ loop.invariant
