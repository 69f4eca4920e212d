-- One turn of each search, of the map and of the table, as the code takes them.
use mathlib.Core.Path.{◌≡◌, sym, ap, ◌∙◌, refl}
use mathlib.Core.Bool.{true, false, not}
use mathlib.Core.List.{List, ◌++◌, append-nil}
use Prim.Native.Nat.{ℕ, ◌+◌, ◌-◌, ◌*◌, ◌≤◌, ◌<◌}
use native.Mathlib.Nat.{mul-le-mul_right}
use native.Mathlib.Omega.{arith}
use lib.ListN.{length, get_or, set, take, drop, length-drop, replicate}
use Rattle.std.proofs.lemmas.List.{get_or-drop}
use Rattle.reader_tokens.specs.Scan.{same}
use Rattle.reader_record.specs.declared.Name.{Name}
use Rattle.reader_record.specs.declared.Text.{Text}
use Rattle.bitmaps.specs.Bits.{tab_from, written}
use Rattle.bitmaps.specs.BitLaws.{written_at, written_past, written_more, written_front, written_same}
use Rattle.clocks_states.specs.Counts.{times_bound}
use Rattle.clocks.specs.States.{input}
use Rattle.pairing.specs.Channels.{name_of, alike, partner, matched, first_unmatched, right_step, verdict, unmatched, pairing}
use Rattle.pairing.specs.Lowest.{upward, search_begins, search_finds, search_goes, search_ends}
use Rattle.pairing.specs.Table.{renumbered, row_entry, StepsThere, Renumbering, RowThere, RowOf, RowWritten}
use Rattle.limits.specs.Limits.{step_limit, state_limit}
use lib.Arith.{digits_div, digits_mod}
use Rattle.pairing.specs.declared.Channels.{Channels}
use Rattle.pairing.specs.declared.Pairing.{Pairing}
use Rattle.std.specs.Prelude.{Result, ⊤}
use Rattle.refusals.specs.declared.Refusal.{Refusal}
use Rattle.pairing.specs.Only.{only, channels_of}

-- the search for a partner, from channel d on
abbrev pub seek : List ℕ → Name → List ℕ → Text → ℕ → ℕ
seek s m u r d = upward (λ e. alike s m u (name_of r e)) r.channel_count d

module _ (s : List ℕ) (m : Name) (u : List ℕ) (r : Text) where
  pub seek_begins : seek s m u r 1 ≡ partner s m u r
  unfolding partner
  seek_begins = search_begins (λ e. alike s m u (name_of r e)) r.channel_count

  module _ (d : ℕ) where
    pub seek_finds :
        d ≤ r.channel_count
        → same m.len (drop m.place s) (name_of r d).len (drop (name_of r d).place u) ≡ true → seek s m u r d ≡ d
    unfolding alike
    seek_finds h e = search_finds (λ e. alike s m u (name_of r e)) r.channel_count d h e

    pub seek_goes :
        d ≤ r.channel_count
        → same m.len (drop m.place s) (name_of r d).len (drop (name_of r d).place u) ≡ false
        → seek s m u r d ≡ seek s m u r (d + 1)
    unfolding alike
    seek_goes h e = search_goes (λ e. alike s m u (name_of r e)) r.channel_count d h e

    pub seek_ends : r.channel_count < d → seek s m u r d ≡ 0
    seek_ends h = search_ends (λ e. alike s m u (name_of r e)) r.channel_count d h

-- the search for an unmatched channel, from channel c on
abbrev pub judge : List ℕ → Text → List ℕ → Text → ℕ → ℕ
judge s l u r c = upward (λ e. not (matched s l u r e)) l.channel_count c

module _ (s : List ℕ) (l : Text) (u : List ℕ) (r : Text) where
  pub judge_begins : judge s l u r 1 ≡ first_unmatched s l u r
  unfolding first_unmatched
  judge_begins = search_begins (λ e. not (matched s l u r e)) l.channel_count

  module _ (c : ℕ) where
    pub judge_finds : c ≤ l.channel_count → matched s l u r c ≡ false → judge s l u r c ≡ c
    judge_finds h e = search_finds (λ e. not (matched s l u r e)) l.channel_count c h (rw e)

    pub judge_goes : c ≤ l.channel_count → matched s l u r c ≡ true → judge s l u r c ≡ judge s l u r (c + 1)
    judge_goes h e = search_goes (λ e. not (matched s l u r e)) l.channel_count c h (rw e)

    pub judge_ends : l.channel_count < c → judge s l u r c ≡ 0
    judge_ends h = search_ends (λ e. not (matched s l u r e)) l.channel_count c h

-- two texts pair up as their channels do
pub pairing_only : (s : List ℕ) (l : Text) (u : List ℕ) (r : Text) → pairing s (only (channels_of l)) u
    (only (channels_of r)) ≡ pairing s l u r
unfolding pairing unmatched first_unmatched matched right_step partner input
pairing_only s l u r = refl

-- what is returned where the channels of two texts are compared
pub pairing_done : (s : List ℕ) (l : Text) (u : List ℕ) (r : Text) (a b : Channels) → a ≡ channels_of l → b
    ≡ channels_of r → (c d : ℕ) → c ≡ first_unmatched s (only a) u (only b) → d ≡ first_unmatched u (only b) s (only a)
    → (v : Result ⊤ Refusal) → v ≡ verdict c d → (map : List ℕ) → map
    ≡ tab_from (right_step s (only a) u (only b)) 0 step_limit → ◌≡◌ {A = Pairing} (record { answer = v; map = map }) (pairing s l u r)
unfolding pairing unmatched
pairing_done s l u r a b e f c d g h v i map j =
    rw (j, i, g, h, e, f) (pairing_only s l u r)

-- an array that is filled whole
pub written_whole : (f : ℕ → ℕ) (n : ℕ) → n ≡ step_limit → written f n (replicate step_limit 0)
    ≡ tab_from f 0 step_limit
unfolding written
written_whole f n e = rw (e, append-nil)

-- a row that is copied to the front of an array
pub row_copied : (table d xs : List ℕ) (from width : ℕ) → from + width ≤ length table → width ≤ length d
    → xs ≡ take (from + width - from) (drop from table) → xs ++ drop width d ≡ written (row_entry table from) width d
row_copied table d xs from width h k e =
    let n : from + width - from ≡ width = omega arith in
    ap (λ (l : List ℕ). l ++ drop width d) (e ∙ ap (λ (i : ℕ). take i (drop from table)) n)
    ∙ written_front (drop from table) d width (omega (arith, length-drop from table, h))
    ∙ written_same _ (row_entry table from) width d k (λ i _. get_or-drop from table i 0)

-- a row, entry by entry, from a copy of what stood there
module _ (table map : List ℕ) (from : ℕ) where
  pub row_none : (d : List ℕ) → RowWritten table map from 0 d d
  row_none d f e r l h = h ∙ ap (λ (n : ℕ). written f n e) (omega arith)

  pub row_more : (c width : ℕ) (d k row : List ℕ) → c < width → StepsThere map width
      → row ≡ written (row_entry table from) width (replicate step_limit 0)
      → RowWritten table map from c d k
      → RowWritten table map from (c + 1) d (set k (from + c) (get_or row (get_or map c 0) 0))
  row_more c width d k row b t q h f e r l w =
      let v : get_or row (get_or map c 0) 0 ≡ f (from + c) =
      ap (λ (x : List ℕ). get_or x (get_or map c 0) 0) q
      ∙ written_at (row_entry table from) width (replicate step_limit 0) (get_or map c 0) (t c b)
      ∙ sym (r c (omega arith)) in
      rw (h f e (λ i m. r i (omega arith)) (omega arith) w)
      (written_more f (from + c) e _ (omega arith) v
      ∙ ap (λ (n : ℕ). written f n e) (omega arith))

  pub row_done : (c width : ℕ) (d k : List ℕ) → RowWritten table map from c d k → c ≡ width → RowWritten table map
      from width d k
  row_done c width d k h q = rw (sym q) h

-- row t and step c of the renumbered table
pub renumbered_at :
    (table map : List ℕ) (right left t c : ℕ) → c < left
    → renumbered table map right left (t * left + c) ≡ get_or table (t * right + get_or map c 0) 0
unfolding renumbered
renumbered_at table map right left t c h = rw (digits_div t h, digits_mod t h)

-- the rows of the table
module _ {entries : ℕ} {map : List ℕ} {n width : ℕ} (h : Renumbering entries map n width) (row : ℕ) (l : row < n) where
  pub row_there : RowThere entries (row * width) width
  row_there =
      let a = times_bound n width state_limit step_limit h.rows h.few in
      record {
        few = h.few;
        inside = omega (arith, row_ends, h.long);
        low = omega (arith, row_ends);
      }
    where
      row_ends : row * width + width ≤ n * width
      row_ends = omega (arith, mul-le-mul_right width l)

  -- one row more: the rows from this one on are still those of the table as it was
  pub rows_more : (d e k : List ℕ) → length e ≡ entries → d ≡ written (renumbered e map width width) (row * width) e
      → RowWritten d map (row * width) width d k
      → k ≡ written (renumbered e map width width) ((row + 1) * width) e
  rows_more d e k s q w =
      let f = renumbered e map width width in
      w f e as_it_was (omega (arith, row_there.inside)) q ∙ ap (λ (i : ℕ). written f i e) (omega arith)
    where
      as_it_was : RowOf d map (row * width) width (renumbered e map width width)
      as_it_was c b =
          renumbered_at e map width width row c b
          ∙ sym (written_past (renumbered e map width width) (row * width) e (row * width + get_or map c 0) (omega arith))
          ∙ ap (λ (x : List ℕ). row_entry x (row * width) (get_or map c 0)) (sym q)
