-- fault_at makes its tests in the order of the definition.
use mathlib.Core.Path.{◌≡◌, sym, ◌∙◌, ap}
use mathlib.Core.Bool.{true}
use mathlib.Core.List.{List}
use Prim.Native.Nat.{ℕ}
use Rattle.bitmaps.specs.Bits.{bit_at}
use Rattle.tables_rows.specs.Raster.{set_at}
use Rattle.tables_check.specs.Fault.{step_fault}
use Rattle.tables_check.specs.Scan.{fault_at}
use Rattle.tables_check.proofs.Laws.{fault_unset, fault_unsafe, fault_untrue, fault_rules, step_broken, step_fine}
use Rattle.tables_check.proofs.fault_at.Goals as goal
use Rattle.tables_check.proofs.fault_at.Goals.{After-get, Else-not-get, Else-not-get-2, After-first_bad-c}

-- the row that is lent is the left state's
row_is : (c : After-get) → set_at c.args.sides.right_states c.args.raster.now c.args.s c.args.t ≡ c.get.result
row_is c = sym (ap (λ (x : List ℕ). bit_at x c.args.t) c.requires.1.1.1.1) ∙ sym c.get.ensures

is_related : (c : Else-not-get) → set_at c.args.sides.right_states c.args.raster.now c.args.s c.args.t ≡ true
is_related c =
    sym (ap (λ (x : List ℕ). bit_at x c.args.t) c.requires.1.1.1.1) ∙ sym c.get.ensures ∙ c.if-not-get.false

is_safe : (c : Else-not-get-2) → bit_at c.args.keep.now c.args.s ≡ true
is_safe c = sym c.get-2.ensures ∙ c.if-not-get-2.false

pub returns-then-not-get : goal.returns-then-not-get
returns-then-not-get c =
    let a = c.args in
    sym (fault_unset _ _ _ _ a.sides.right_states _ a.raster.now a.s a.t
    (row_is (goal.at.returns-then-not-get c).After-get ∙ c.if-not-get.true))

pub returns-then-not-get-2 : goal.returns-then-not-get-2
returns-then-not-get-2 c =
    let a = c.args in
    sym (fault_unsafe _ _ a.keep.now _ a.sides.right_states _ a.raster.now a.s a.t
    (is_related (goal.at.returns-then-not-get-2 c).Else-not-get) (sym c.get-2.ensures ∙ c.if-not-get-2.true))

pub returns-then-not-get-3 : goal.returns-then-not-get-3
returns-then-not-get-3 c =
    let a = c.args in
    sym (fault_untrue _ _ a.keep.now a.holds.now a.sides.right_states _ a.raster.now a.s
    a.t (is_related (goal.at.returns-then-not-get-3 c).Else-not-get)
    (is_safe (goal.at.returns-then-not-get-3 c).Else-not-get-2)
    (sym c.get-3.ensures ∙ c.if-not-get-3.true))

-- behind all tests the rules decide
by_rules : (c : After-first_bad-c) → set_at c.args.sides.right_states c.args.raster.now c.args.s c.args.t ≡ true
    → bit_at c.args.keep.now c.args.s ≡ true
    → fault_at c.args.lm.now c.args.rm.now c.args.keep.now c.args.holds.now c.args.sides.right_states
    c.args.sides.steps c.args.raster.now c.args.s c.args.t
    ≡ step_fault c.args.sides.steps c.first_bad-c.result
by_rules c r k =
    let a = c.args in
    let holds = sym c.get-3.ensures ∙ c.if-not-get-3.false in
    fault_rules a.lm.now a.rm.now a.keep.now a.holds.now a.sides.right_states
    a.sides.steps a.raster.now a.s a.t r k holds
    ∙ ap (step_fault a.sides.steps) (sym c.first_bad-c.ensures)

pub returns-then-c-sides : goal.returns-then-c-sides
returns-then-c-sides c =
    let at = goal.at.returns-then-c-sides c in
    sym (by_rules at.After-first_bad-c (is_related at.Else-not-get) (is_safe at.Else-not-get-2)
    ∙ step_broken _ c.first_bad-c.result c.if-c-sides.true)

pub returns : goal.returns
returns c =
    let at = goal.at.returns c in
    sym (by_rules at.After-first_bad-c (is_related at.Else-not-get) (is_safe at.Else-not-get-2)
    ∙ step_fine _ c.first_bad-c.result c.if-c-sides.false)
