-- pair_edges: the edges of the left edges passed so far are gathered; with more than the limit, all of them are more.
use Rattle.bitmaps.specs.Bits.{tab_from}
use Rattle.reader_record.specs.Record.{edge}
use Rattle.joined.specs.Joined.{paired, edges_of}
use Rattle.joining_edges.specs.Edges.{by_map, Holds}
use Rattle.joining_edges.proofs.pair_edges.Given as goal

abbrev pub invariant-loop-i : goal.invariant-loop-i
invariant-loop-i l = Holds (paired l.fn.l l.r (by_map l.map) (tab_from (edge l.fn.l) 0 l.i) (edges_of l.r)) l.all
