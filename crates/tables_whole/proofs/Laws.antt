-- The table that is left when the raster behind its header is put back.
use mathlib.Core.Path.{◌≡◌, refl, sym, ap, ◌∙◌}
use mathlib.Core.Bool.{Bool}
use mathlib.Core.List.{List, [], ◌++◌, append_assoc, append-nil}
use Prim.Native.Nat.{ℕ, ◌+◌, ◌-◌, ◌*◌, ◌≤◌}
use native.Mathlib.Omega.{arith}
use borrow.Rule.Slice.PartMut.{mid_of, put_mid}
use lib.ListN.{length, take, drop, length-drop, drop_of_length-le}
use lib.Seq.{take_at, drop_at, drop-drop}
use Rattle.systems.specs.Finite.{widest}
use Rattle.bitmaps.specs.Packed.{bytes_for}
use Rattle.move_tables.specs.declared.Sides.{Sides}
use Rattle.tables_header.specs.Header.{header, header_bytes, table_bytes, fits}
use Rattle.tables_rows.specs.Raster.{raster, raster_of}
use Rattle.tables_widest.specs.Whole.{WidestAnswers}
use Rattle.tables_whole.specs.TableFile.{table_file}
use Rattle.tables_whole.specs.Answer.{Makes}
use Rattle.tables_whole.specs.Parts.{rest_of}

module _ (w n : ℕ) (t : List ℕ) (fits : table_bytes w n ≤ length t) where
  headed : List ℕ
  headed = header w n ++ drop (header_bytes w n) t

  headed_rest : drop (header_bytes w n) headed ≡ drop (header_bytes w n) t
  unfolding headed header_bytes
  headed_rest = drop_at (header w n) (drop (length (header w n)) t) (length (header w n)) refl

  -- the raster of X put behind the header
  put_file : (X : List Bool) (a : ℕ) (t₁ y : List ℕ) → a ≡ header_bytes w n → t₁ ≡ headed
      → y ≡ raster_of n w X (mid_of a (length t₁ - a) t₁)
      → put_mid a (length t₁ - a) t₁ y ≡ table_file n w X ++ drop (table_bytes w n) t
  unfolding headed header_bytes raster_of table_file table_bytes
  put_file X a t₁ y ea et ey =
      let front : take a t₁ ≡ header w n = ap (take a) et ∙ take_at (header w n) (drop (length (header w n)) t) a
      (sym ea) in
      let after : drop a t₁ ≡ drop (length (header w n)) t = ap (drop a) et ∙ ap (λ (x : ℕ). drop x headed) ea
      ∙ headed_rest in
      let none : drop (length t₁ - a) (drop a t₁) ≡ [] =
      drop_of_length-le (drop a t₁) (let q : length (drop a t₁) ≤ length t₁ - a =
      omega (arith, length-drop a t₁) in q) in
      let body : y ≡ raster n w X ++ drop (length (header w n) + n * bytes_for w) t =
      ey ∙ ap (λ (x : List ℕ). raster n w X ++ drop (n * bytes_for w) x) (rest_of a t₁ ∙ after)
      ∙ ap (λ (x : List ℕ). raster n w X ++ x) (drop-drop (n * bytes_for w) (length (header w n)) t) in
      ap (λ (x : List ℕ). x ++ (y ++ drop (length t₁ - a) (drop a t₁))) front
      ∙ ap (λ (x : List ℕ). header w n ++ (y ++ x)) none
      ∙ ap (λ (x : List ℕ). header w n ++ x) (append-nil y ∙ body)
      ∙ sym (append_assoc (header w n) (raster n w X) (drop (length (header w n) + n * bytes_for w) t))

-- what is left when the widest raster is put back
module _ (sides : Sides) (t : List ℕ) where
  abbrev n : ℕ
  n = sides.left_states

  abbrev w : ℕ
  w = sides.right_states

  pub made_done : (keep holds lm rm : List ℕ) (a : ℕ) (t₁ y : List ℕ) (count : ℕ) (start : Bool)
      → table_bytes w n ≤ length t → a ≡ header_bytes w n → t₁ ≡ header w n ++ drop (header_bytes w n) t
      → WidestAnswers keep holds lm rm sides (mid_of a (length t₁ - a) t₁) y count start
      → Makes keep holds lm rm sides t (put_mid a (length t₁ - a) t₁ y) count start
  unfolding headed
  made_done keep holds lm rm a t₁ y count start fits ea et W A L R G =
      let made = W A L R G in
      record {
        table_is = put_file w n t fits (widest L R) a t₁ y ea et made.raster_is_widest;
        count_is = made.count_is;
        start_is = made.start_is;
      }
