-- The eleven posts (SPECIFICATION 16.1) and texts of SPECIFICATION 16.10 and 16.11 read to their records, at tick length
-- 1, and Sheet at others (SPECIFICATION 16.9): computed by the definition of reading.
use Rattle.std.specs.Prelude.{◌≡◌, refl, List, ℕ, Ok, Err}
use Rattle.reader_record.specs.declared.Text.{Text}
use Rattle.refusals.specs.declared.File.TheVariants.{Left}
use Rattle.refusals.specs.declared.Refusal.TheVariants.{ConstantTooLarge}
use Rattle.refusals.specs.Refusals.{tick_out_of_range}
use Rattle.reader.specs.Reading.{read_text}
use Rattle.reader_examples.specs.Opened.{opened}
use Rattle.reader_examples.specs.Texts.{post, rearm, woken, overridden, too_late, early, strict, loose, sheet, hush, idle, spare, twice, stay_or_go, reset_or_not, late_or_not, woken_twice}
use Rattle.reader_examples.specs.Records.{post_record, rearm_record, woken_record, overridden_record, too_late_record, early_record, strict_record, loose_record, sheet_record, hush_record, idle_record, spare_record, twice_record, stay_or_go_record, reset_or_not_record, late_or_not_record, woken_twice_record}
use Rattle.limits.specs.Limits.{shortest_tick}

abbrev pub ReadsAt : ℕ → List ℕ → Text → Type 0
ReadsAt period s t = read_text period s ≡ Ok t

abbrev pub ReadsTo : List ℕ → Text → Type 0
ReadsTo = ReadsAt shortest_tick

pub post_read : ReadsTo post post_record
unfolding opened
post_read = refl

pub rearm_read : ReadsTo rearm rearm_record
unfolding opened
rearm_read = refl

pub woken_read : ReadsTo woken woken_record
unfolding opened
woken_read = refl

pub overridden_read : ReadsTo overridden overridden_record
unfolding opened
overridden_read = refl

pub too_late_read : ReadsTo too_late too_late_record
unfolding opened
too_late_read = refl

pub early_read : ReadsTo early early_record
unfolding opened
early_read = refl

pub strict_read : ReadsTo strict strict_record
unfolding opened
strict_read = refl

pub hush_read : ReadsTo hush hush_record
unfolding opened
hush_read = refl

pub idle_read : ReadsTo idle idle_record
unfolding opened
idle_read = refl

pub loose_read : ReadsTo loose loose_record
unfolding opened
loose_read = refl

pub spare_read : ReadsTo spare spare_record
unfolding opened
spare_read = refl

pub twice_read : ReadsTo twice twice_record
unfolding opened
twice_read = refl

pub stay_or_go_read : ReadsTo stay_or_go stay_or_go_record
unfolding opened
stay_or_go_read = refl

pub reset_or_not_read : ReadsTo reset_or_not reset_or_not_record
unfolding opened
reset_or_not_read = refl

pub late_or_not_read : ReadsTo late_or_not late_or_not_record
unfolding opened
late_or_not_read = refl

pub woken_twice_read : ReadsTo woken_twice woken_twice_record
unfolding opened
woken_twice_read = refl

-- a half goes up: 2,500 at 1,000 and 3,000 at 2,000; 2,500 at 2,000 goes down
pub record SheetRead : Type 0 where
  pub at_1000 : ReadsAt 1000 sheet (sheet_record 3 3)
  pub at_2000 : ReadsAt 2000 sheet (sheet_record 2 1)
  pub at_60000 : ReadsAt 60000 sheet (sheet_record 0 0)

pub sheet_read : SheetRead
unfolding opened
sheet_read = record { at_1000 = refl; at_2000 = refl; at_60000 = refl }

-- at tick length 1 the first of the two constants is too large, and 0 is no tick length
pub record SheetRefused : Type 0 where
  pub at_1 : read_text shortest_tick sheet ≡ Err (ConstantTooLarge Left 78)
  pub at_0 : read_text 0 sheet ≡ Err (tick_out_of_range 0)

pub sheet_refused : SheetRefused
unfolding opened
sheet_refused = record { at_1 = refl; at_0 = refl }
