-- The bytes of the channel's name.
use mathlib.Core.Path.{ap}
use mathlib.Core.List.{List, [], ◌∷◌}
use Prim.Native.Nat.{ℕ}
use Rattle.writer_tokens.specs.TokenLaws.{tokens_same}
use Rattle.writer_parts.specs.PartLaws.{name_in}
use Rattle.writer_parts.proofs.put_channel.Goals as goal

pub put_part-requires : goal.put_part-requires
put_part-requires c =
    c.requires.2 c.args.i
    c.requires.1

pub returns : goal.returns
returns c =
    let args = c.args in
    tokens_same (ap (λ (w : List ℕ). w ∷ []) (name_in args.s.now args.channels args.count args.i
    c.requires.1))
    c.put_part.ensures
