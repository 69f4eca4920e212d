-- When a text is accepted, as a record: it is well formed, as reading promises, and codes 9 to 11 find nothing
-- (SPECIFICATION 7.4).
use Rattle.std.specs.Prelude.{Ok, ◌≡◌}
use Rattle.reader_record.specs.declared.Text.{Text}
use Rattle.reader_record.specs.Formed.{WellFormed}
use Rattle.clocks.specs.States.{judgement}

pub record Accepted (t : Text) : Type 0 where
  pub formed : WellFormed t
  pub clean : judgement t ≡ Ok tt
