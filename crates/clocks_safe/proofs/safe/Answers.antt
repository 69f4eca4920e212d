use native.Mathlib.Omega.{arith}
use Rattle.clocks_safe.proofs.SettleLaws.{copied_counted, safe_answered}
use Rattle.clocks_safe.proofs.safe.Goals as goal

pub bytes_for-m-requires : goal.bytes_for-m-requires
bytes_for-m-requires c = omega (arith, c.requires.0.few)

pub copy-requires : goal.copy-requires
copy-requires c =
    let pre = c.requires in
    let bytes = c.bytes_for-m in
    (omega (arith, bytes.ensures, pre.1.1.1), omega (arith, bytes.ensures, pre.1.1.0.is.room))

pub settle-requires : goal.settle-requires
settle-requires c =
    let args = c.args in
    let pre = c.requires in (
      pre.0,
      (
        pre.1.0,
        copied_counted args.keep.now pre.1.1.0 pre.1.1.1 (rw c.bytes_for-m.ensures at c.copy.ensures)
            c.count-count.ensures,
      ),
    )

pub returns : goal.returns
returns c =
    let args = c.args in
    let pre = c.requires in
    safe_answered args.keep.now pre.1.1.0 pre.1.1.1 (rw c.bytes_for-m.ensures at c.copy.ensures) args.moves.now
    args.inputs.now c.settle.ensures
