-- What the programs print for the posts, byte for byte (SPECIFICATION 16.3 to 16.5, 16.8). Definitions only: Printed.antt
-- proves them.
use Rattle.std.specs.Prelude.{◌≡◌, ℕ, ◌≤◌}
use Rattle.reader_examples.specs.Texts.{post, rearm, loose, hush}
use Rattle.byte_slices.specs.Decimal.{ascii}
use Rattle.guarantees_starred.specs.Sentences.{widest_raster, diagonal_raster, start_raster, ten_by_ten}
use Rattle.printed.specs.Prints.{megzhoi_prints, widest_prints, recheck_prints, implementation_prints}

-- the lines, one field each
pub record Lines : Type 0 where
  -- Rearm against Post: the departure, its channels as Rearm spells them
  pub rearm_departs : megzhoi_prints rearm post ≡ ascii "NO 5\ntick\ntick\ntick\nspike?\ntick\n"
  -- Post against Post: no departure, and the pairs of the widest table
  pub post_refines : megzhoi_prints post post ≡ ascii "YES 29\n"
  -- Hush as the left
  pub hush_refused : megzhoi_prints hush post ≡ ascii "REFUSED 17 1 0 0\n"
  -- the table as a file, whatever room there is for it
  pub post_table : (room : ℕ) → 29 ≤ room → widest_prints room post post ≡ ten_by_ten widest_raster
  -- the table of the safe states each with itself, and the one of the starts alone
  pub diagonal_accepted : recheck_prints post post (ten_by_ten diagonal_raster) ≡ ascii "ACCEPTED 9\n"
  pub start_refused : recheck_prints post post (ten_by_ten start_raster) ≡ ascii "REFUSED 20 0 0 0\n"
  -- the implementation check of Post, of Loose and of Hush
  pub post_implementation : implementation_prints post ≡ ascii "YES\n"
  pub loose_implementation : implementation_prints loose ≡ ascii "REFUSED 22 1 2 3\n"
  pub hush_implementation : implementation_prints hush ≡ ascii "REFUSED 23 1 3 0\n"
