-- place: a class that takes the state, or a new class.
use Rattle.std.specs.Prelude.{◌<◌}
use Rattle.std.proofs.Common.{arith, ◌∙◌}
use Rattle.move_tables.specs.MoveLaws.{target}
use Rattle.tables_shifts.specs.Shifts.{class_limit}
use Rattle.tables_shifts.proofs.Classes.{beside_behind, classed_add, classed_new, behind_then}
use Rattle.tables_shifts.proofs.place.Goals as goal

pub returns-then-i-k : goal.returns-then-i-k
returns-then-i-k c =
    let pre = c.requires in
    let C = pre.1.1.1.1 in
    let A = c.add_state.ensures in
    let v = c.number-v.ensures.0 in
    let leads = c.near_class-i.ensures.1 c.if-i-k.true ∙ v in
    let moves = target pre.0 c.args.t c.args.c pre.1.1.0 pre.1.0 (λ z. c.if-v-eq-NO_TARGET.false (v ∙ z)) in
    (beside_behind A.beside (omega (arith, C.few)), λ h. classed_add pre.1.1.0 moves A c.if-i-k.true leads C)

pub returns : goal.returns
returns c =
    let pre = c.requires in
    let C = pre.1.1.1.1 in
    let few = C.few in
    let n = c.if-k-eq-CLASS_LIMIT.false in
    let room : c.args.p.count < class_limit = omega arith in
    let O = c.open_class.ensures in
    let A = c.add_state-2.ensures in
    let v = c.number-v.ensures.0 in
    let moves = target pre.0 c.args.t c.args.c pre.1.1.0 pre.1.0 (λ z. c.if-v-eq-NO_TARGET.false (v ∙ z)) in (
      behind_then (beside_behind O.beside room) (beside_behind A.beside room),
      λ h. classed_new pre.1.1.0 moves room (rw v at O) A C,
    )
