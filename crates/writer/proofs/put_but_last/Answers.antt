-- The parts, one after another.
use borrow.Author.Rules.{rules}
use Rattle.writer_tokens.specs.TokenLaws.{tokens_then}
use Rattle.writer.specs.Whole.{text_but_last}
use Rattle.written_names.specs.InsideLaws.{spellings_of}
use Rattle.writer.proofs.put_but_last.Goals as goal

pub returns : goal.returns
unfolding text_but_last
returns c =
    let same = spellings_of c.args.s.now
    c.args.t in
    tokens_then (rw same at c.put_channels-declared.ensures) (tokens_then c.put_process-process.ensures (tokens_then c.put_clocks-clocks.ensures
    (tokens_then c.put_locations-locations.ensures
    (tokens_then c.put_init-init.ensures
    (tokens_then (rw same at c.put_edges-edges.ensures)
    c.put_end.ensures)))))
