-- row_ones goes byte by byte: r is the ones of the first i bytes.
use Rattle.std.specs.Prelude.{◌≡◌, ℕ, suc, ◌+◌, ◌-◌, ◌*◌, ◌/◌, ◌%◌, get_or}
use Rattle.std.proofs.Common.{arith, ap, refl}
use Rattle.bitmaps.specs.Bits.{bit_at}
use Rattle.tables_count.specs.Pairs.{passing, high_ones}
use Rattle.tables_count.proofs.PassingLaws.{passing_le}
use Rattle.tables_count.proofs.Laws.{passing_byte, high_le}
use Rattle.tables_count.proofs.row_ones.Goals as goal

pub loop-i-init : goal.loop-i-init
unfolding passing
loop-i-init c = refl

pub overflow_add-r : goal.overflow_add-r
overflow_add-r c = omega (
  arith,
  c.loop-i.invariant,
  passing_le (bit_at c.args.row.now) (8 * c.loop-i.i),
  c.whole_ones-r.ensures,
  high_le (get_or c.args.row.now c.loop-i.i 0) 8,
)

pub loop-i-preserved : goal.loop-i-preserved
loop-i-preserved c =
    let e : 8 * (c.loop-i.i + 1) ≡ 8 * c.loop-i.i + 8 = omega arith in
    omega (
      arith,
      c.loop-i.invariant,
      c.whole_ones-r.ensures,
      passing_byte c.args.row.now c.loop-i.i 8 (omega arith),
      ap (passing (bit_at c.args.row.now)) e,
    )

pub overflow_add-result : goal.overflow_add-result
overflow_add-result c = omega (
  arith,
  c.loop-i.invariant,
  passing_le (bit_at c.args.row.now) (8 * c.loop-i.i),
  c.byte_ones.ensures,
  high_le (get_or c.args.row.now (c.args.w / 8) 0) (suc (c.args.w % 8 - 1)),
)

pub returns : goal.returns
returns c =
    let args = c.args in
    let i : c.loop-i.i ≡ args.w / 8 = omega arith in
    let a : suc (args.w % 8 - 1) ≡ args.w % 8 = omega arith in
    let e : 8 * (args.w / 8) + args.w % 8 ≡ args.w = omega arith in
    omega (
      arith,
      c.loop-i.invariant,
      ap (λ (x : ℕ). passing (bit_at args.row.now) (8 * x)) i,
      c.byte_ones.ensures,
      ap (high_ones (get_or args.row.now (args.w / 8) 0)) a,
      passing_byte args.row.now (args.w / 8) (args.w % 8) (omega arith),
      ap (passing (bit_at args.row.now)) e,
    )
