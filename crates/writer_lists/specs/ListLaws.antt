-- The lists item by item, and which records can be written.
use Rattle.std.specs.Prelude.{◌≡◌, List, [], ◌∷◌, ℕ, ◌+◌, ◌≤◌, ◌<◌}
use Rattle.reader_tokens.specs.Scan.{bytes}
use Rattle.reader_record.specs.declared.Text.{Text}
use Rattle.written.specs.Spaced.{Tokens}
use Rattle.written.specs.Written.{list_tokens}
use Rattle.written.proofs.Good.{Readable}
use Rattle.writer_tokens.specs.Tokens.{PutsTokens, LeftToPut}
use Rattle.written_names.specs.Inside.{NamesInside}
use Rattle.writer_parts.specs.ItemLaws.{items_next, part_none, part_some}
use Rattle.writer_lists.specs.Lists.{TextWithin, list_left}

-- a record that can be read back, and names within the text, can be written
pub readable_within :
    (s : List ℕ) (t : Text) → Readable t → NamesInside s t.channels t.channel_count → TextWithin s t
readable_within s t r inside = record {
  few_channels = r.channels;
  few_clocks = r.clocks;
  locations = record { few = r.locations; invariants = λ l h. (r.invariant l h).few };
  few_edges = r.edges;
  guards = λ i h. (r.guard i h).few;
  labels = r.label;
  inside = inside;
}

module _ (item : ℕ → Tokens) (n : ℕ) where
  -- item i, behind a comma
  pub list_next :
      {a b c d : List ℕ} {at j k l : ℕ} {all : Tokens} (i : ℕ) → i < n → LeftToPut a at all b j (list_left item n i)
      → PutsTokens b j (bytes "," ∷ []) c k → PutsTokens c k (item i) d l
      → LeftToPut a at all d l (list_left item n (i + 1))
  list_next i h left first second = items_next (bytes ",") (bytes ";") item n i h left first second

module _ (opening : Tokens) (item : ℕ → Tokens) (n : ℕ) where
  pub list_none : {a : List ℕ} {at : ℕ} → n ≡ 0 → PutsTokens a at (list_tokens opening item n) a at
  unfolding list_tokens
  list_none e = part_none opening (bytes ",") (bytes ";") item n e

  pub list_some :
      {a b c d e : List ℕ} {at j k l m : ℕ} (i : ℕ) → 0 < n → n ≤ i → PutsTokens a at opening b j
      → PutsTokens b j (item 0) c k → LeftToPut c k (list_left item n 1) d l (list_left item n i)
      → PutsTokens d l (bytes ";" ∷ []) e m → PutsTokens a at (list_tokens opening item n) e m
  unfolding list_tokens
  list_some i h g first second left last =
      part_some opening (bytes ",") (bytes ";") item n i h g first second left last
