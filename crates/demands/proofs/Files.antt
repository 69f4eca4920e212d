-- The table file of a list of pairs in front of old bytes: its form, its pairs, its padding.
use Rattle.std.specs.Prelude.{◌≡◌, Bool, false, ℕ, ◌+◌, ◌*◌, ◌/◌, ◌%◌, ◌≤◌, ◌<◌, T, take}
use Rattle.std.proofs.Math.Path.{refl, ap}
use Rattle.std.proofs.Common.{sym, ◌∙◌, arith, length-drop, take_at, drop-drop}
use mathlib.Core.List.{List, ◌++◌, append_assoc}
use Rattle.std.proofs.Math.ListN.{length, drop, length-append, get_or-eq_default}
use Rattle.std.proofs.Math.Seq.{drop_at}
use Rattle.systems.specs.Tests.{at}
use Rattle.systems.specs.Definitions.{Signature}
use Rattle.systems.specs.Finite.{FiniteSystem, pairs, widest, pair_test}
use Rattle.bitmaps.specs.Bits.{bit_at, byte_of}
use Rattle.bitmaps.specs.BitLaws.{length_tab}
use Rattle.systems.proofs.Sieve.{length_table, length_stage}
use Rattle.bitmaps.specs.Packed.{bytes_for}
use Rattle.tables_header.specs.Header.{header, header_bytes, table_bytes, fits}
use Rattle.tables_header.specs.Laws.{fits_iff}
use Rattle.tables_rows.specs.Raster as raster
use Rattle.tables_rows.specs.Raster.{set_at, denoted, row}
use Rattle.tables_rows.specs.RasterLaws.{raster_rows, row_length}
use Rattle.tables_whole.specs.TableFile.{table_file}
use Rattle.tables_whole.specs.Exact.{raster_denotes, raster_pairs}
use Rattle.demands.proofs.Kept.{packed_byte}

-- the table file of X in front of the old bytes
module _ (n w : ℕ) (X : List Bool) (old : List ℕ) where
  abbrev pub file : List ℕ
  file = table_file n w X ++ drop (table_bytes w n) old

  file_raster : drop (header_bytes w n) file ≡ raster.raster_of n w X (drop (header_bytes w n) old)
  unfolding table_file header_bytes table_bytes raster.raster_of
  file_raster =
      ap (drop (length (header w n)))
      (append_assoc (header w n) (raster.raster n w X) (drop (length (header w n) + n * bytes_for w) old))
      ∙ drop_at (header w n) (raster.raster n w X ++ drop (length (header w n) + n * bytes_for w) old)
      (length (header w n)) refl
      ∙ ap (λ (k : List ℕ). raster.raster n w X ++ k) (sym (drop-drop (n * bytes_for w) (length (header w n)) old))

  raster_length : length (raster.raster n w X) ≡ n * bytes_for w
  unfolding raster.raster
  raster_length = length_tab (λ i. byte_of (raster.in_row w X (i / bytes_for w)) (i % bytes_for w)) 0 (n * bytes_for w)

  pub file_length : length (table_file n w X) ≡ table_bytes w n
  unfolding table_file header_bytes table_bytes
  file_length = length-append (header w n) (raster.raster n w X) ∙ ap (λ (k : ℕ). length (header w n) + k) raster_length

  file_taken : take (table_bytes w n) file ≡ table_file n w X
  file_taken = take_at (table_file n w X) (drop (table_bytes w n) old) (table_bytes w n) file_length

  pub file_form : T (fits w n (take (table_bytes w n) file))
  file_form = rw file_taken ((fits_iff w n (table_file n w X)).1
      (raster.raster n w X, raster_length, unfold table_file in refl))

  pub file_rest : drop (table_bytes w n) file ≡ drop (table_bytes w n) old
  file_rest = drop_at (table_file n w X) (drop (table_bytes w n) old) (table_bytes w n) file_length

  module _ (room : table_bytes w n ≤ length old) (long : length X ≡ n * w) where
    pub file_long : length file ≡ length old
    file_long = length-append (table_file n w X) (drop (table_bytes w n) old)
        ∙ omega (arith, file_length, length-drop (table_bytes w n) old)

    raster_room : n * bytes_for w ≤ length (drop (header_bytes w n) old)
    unfolding table_bytes
    raster_room = rw (length-drop (header_bytes w n) old) (omega arith)

    pub file_set : (s t : ℕ) → s < n → t < w → set_at w (drop (header_bytes w n) file) s t ≡ at X (s * w + t)
    file_set s t h l = ap (λ (k : List ℕ). set_at w k s t) file_raster
        ∙ raster_pairs n w X (drop (header_bytes w n) old) long raster_room s t h l

    pub file_denoted : 0 < w → denoted n w (drop (header_bytes w n) file) ≡ X
    file_denoted wide = ap (denoted n w) file_raster
        ∙ raster_denotes n w X (drop (header_bytes w n) old) wide long raster_room

    pub file_padding : (s i : ℕ) → s < n → w ≤ i → i < 8 * bytes_for w → set_at w (drop (header_bytes w n) file) s i ≡ false
    file_padding s i h l m =
        let r = (raster_rows (drop (header_bytes w n) old) long raster_room).rows s h in
        ap (λ (k : List ℕ). set_at w k s i) file_raster
        ∙ ap (λ (k : List ℕ). bit_at k i) r.is
        ∙ packed_byte w (row w X s) (raster.part (bytes_for w) s (raster.raster_of n w X (drop (header_bytes w n) old)))
        i (omega arith)
        ∙ get_or-eq_default (row w X s) false (rw (row_length n w X s long h) l)

pub widest_length : {A : Signature} (L R : FiniteSystem A) → length (widest L R) ≡ L.size * R.size
unfolding widest pairs
widest_length L R = length_stage (pair_test L R) _ (L.size * R.size) ∙ length_table (L.size * R.size) _
