-- Bytes laid over the front of a slice.
use Rattle.std.specs.Prelude.{List, ◌++◌, ℕ, min, length, take, drop}

-- a slice afterwards, and how many bytes at its front were laid
pub record Laid : Type 0 where
  pub slice : List ℕ
  pub count : ℕ

-- bytes over the front of a slice, as far as it goes; the rest of the slice keeps its values
unfoldable pub laid : List ℕ → List ℕ → Laid
laid out bytes = record {
  slice = take (length out) bytes ++ drop (length bytes) out;
  count = min (length bytes) (length out);
}
