-- The bytes that are left to compare decide.
use mathlib.Core.Path.{◌≡◌}
use lib.ListN.{replicate}
use Rattle.writer_tokens.specs.Tokens.{underscore}
use Rattle.writer_names.specs.Names.{part, is_word}
use Rattle.writer_names.proofs.are_underscores.Given as goal

abbrev pub invariant-loop-left : goal.invariant-loop-left
invariant-loop-left l = is_word (part l.s l.place l.left) (replicate l.left underscore)
    ≡ is_word (part l.s l.place l.fn.len) (replicate l.fn.u underscore)
