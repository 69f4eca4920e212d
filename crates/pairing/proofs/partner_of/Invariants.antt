-- `partner_of` returns the channel that has the name: the invariant says that the search from d on is the whole search.
use mathlib.Core.Path.{◌≡◌}
use Rattle.reader_record.specs.declared.Name.{Name}
use Rattle.pairing.specs.Only.{only}
use Rattle.pairing.specs.Channels.{partner}
use Rattle.pairing.proofs.Turns.{seek}
use Rattle.pairing.proofs.partner_of.Given as goal

abbrev pub invariant-loop-d : goal.invariant-loop-d
invariant-loop-d l =
    let name : Name = record { place = l.place; len = l.len } in
    seek l.s name l.u (only l.r) l.d ≡ partner l.s name l.u (only l.r)
