-- The bytes from the place on, as many as the name has.
use mathlib.Core.Path.{◌≡◌}
use Prim.Native.Nat.{◌+◌, ◌-◌}
use native.Mathlib.Omega.{arith}
use Rattle.writer_tokens.proofs.put_part.Goals as goal

pub returns : goal.returns
returns c =
    let name = c.args.name in
    let e : name.place + name.len - name.place ≡ name.len = omega arith in
    rw e at c.put_token.ensures
