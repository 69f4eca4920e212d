-- `agrees` is `agree`: the bytes that are left to compare decide.
use Rattle.std.specs.Prelude.{◌≡◌, ◌-◌, drop}
use Rattle.reader_tokens.specs.Scan.{agree}
use Rattle.reader_tokens.proofs.agrees.Given as goal

abbrev pub invariant-loop-k : goal.invariant-loop-k
invariant-loop-k l =
    agree (l.n - l.k) (drop l.k l.x) (drop l.k l.y) ≡ agree l.n (drop l.p l.s) (drop l.q l.t)
