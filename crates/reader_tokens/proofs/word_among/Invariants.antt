-- `word_among` is `word_kind`: the words are tried in the order of their kinds, and the row goes on with them.
use Prim.Native.Nat.{◌+◌, ◌-◌, ◌≤◌}
use mathlib.Core.Path.{◌≡◌}
use mathlib.Core.List.{flatten}
use lib.ListN.{length, drop}
use Rattle.reader_tokens.specs.Kinds.{broadcast}
use Rattle.reader_tokens.specs.Tokens.{words, word_from, word_kind}
use Rattle.reader_tokens.proofs.word_among.Given as goal

abbrev pub invariant-loop-i : goal.invariant-loop-i
invariant-loop-i l = (l.at ≤ length l.row) ×
    ((drop l.at l.row ≡ flatten (drop l.i words)) × (word_from (broadcast + l.i) (drop l.i words) l.n (drop l.p l.s) ≡ word_kind l.n (drop l.p l.s)))

abbrev pub decreases-loop-i : goal.decreases-loop-i
decreases-loop-i l = length l.lengths - l.i
