-- The parts before `init`, each from where the one before it came to.
use Rattle.reader_parts.specs.Binds.{err_is}
use Rattle.reader_lists.specs.Heads.{no_edges}
use Rattle.reader.specs.Reading.{process_part}
use Rattle.reader.proofs.read_head.Goals as goal

pub returns-in_err-d : goal.returns-in_err-d
unfolding process_part
returns-in_err-d c =
    let a = rw (c.start.ensures, c.in_ok-a.was) at (c.channel_part.ensures 0 no_edges 0) in
    rw (err_is c.from_residual-in_err-d.result c.from_residual-in_err-d.ensures.1, a, ← c.in_err-d.ensures)

pub returns-in_err-c : goal.returns-in_err-c
unfolding process_part
returns-in_err-c c =
    let a = rw (c.start.ensures, c.in_ok-a.was) at (c.channel_part.ensures 0 no_edges 0) in
    let b = rw c.in_err-c.was at (c.clock_part.ensures 0 no_edges 0) in
    rw (err_is c.from_residual-in_err-c.result c.from_residual-in_err-c.ensures.1, a, ← c.in_ok-d.ensures, b)

pub returns : goal.returns
unfolding process_part
returns c =
    let a = rw (c.start.ensures, c.in_ok-a.was) at (c.channel_part.ensures 0 no_edges 0) in
    let b = rw c.in_ok-c.was at (c.clock_part.ensures 0 no_edges 0) in
    rw (a, ← c.in_ok-d.ensures, b, c.location_part.ensures 0 no_edges 0)
