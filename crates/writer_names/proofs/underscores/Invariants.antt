-- With fewer than u underscores some name is a channel's.
use mathlib.Core.Path.{◌≡◌}
use mathlib.Core.Bool.{Bool, not}
use mathlib.Core.List.{List}
use Prim.Native.Nat.{ℕ, suc, ◌-◌}
use Rattle.systems.specs.Tests.{least}
use Rattle.reader_record.specs.declared.Channel.{Channel}
use Rattle.written.specs.Underscores.{clashes}
use Rattle.written_names.specs.Inside.{names_in}
use Rattle.writer_names.proofs.underscores.Given as goal

abbrev pub free : List ℕ → List Channel → ℕ → ℕ → ℕ → ℕ → Bool
free s channels count clocks locations u = not (clashes (names_in s channels count) count clocks locations u)

abbrev pub invariant-loop-u : goal.invariant-loop-u
invariant-loop-u l = least (free l.s l.channels l.count l.clocks l.locations) l.u (suc l.count - l.u)
    ≡ least (free l.s l.channels l.count l.clocks l.locations) 0 (suc l.count)
