-- A text that is written for a record is read back to that record.
use Rattle.std.specs.Prelude.{Result, Ok, Err, IsOkAnd, ◌≡◌, length, replicate}
use Rattle.std.proofs.Math.Path.{refl}
use Rattle.std.proofs.Math.Bool.{true, false}
use mathlib.Core.List.{List, [], ◌∷◌, ◌++◌}
use Prim.Native.Nat.{ℕ, zero, suc, ◌≤◌}
use Rattle.std.proofs.Common.{arith}
use borrow.Author.Tests.{le-ltb}
use Rattle.reader_tokens.specs.Scan.{bytes}
use Rattle.limits.specs.Limits.{shortest_tick, channel_limit, largest_text, tick_allowed}
use Rattle.reader_record.specs.Record.{no_name}
use Rattle.reader_record.specs.declared.Text.{Text}
use Rattle.reader_parts.specs.Slots.{name_slots}
use Rattle.reader_parts.specs.declared.Fault.{Fault}
use Rattle.reader_lists.specs.State.{State, no_text}
use Rattle.reader.specs.Reading.{start, read_whole, answer, read_text}
use Rattle.reader_formed.proofs.Cases.{blank}
use Rattle.written.specs.Spaced.{Tokens, part_tokens, numbered_items}
use Rattle.written.specs.Written.{process_called, location_called, location_tokens, list_tokens, clock_list, location_list, edge_list, text_tokens, written_with}
use Rattle.written.proofs.Good.{ChannelNames, GoodNames, Readable}
use Rattle.written.specs.Underscores.{underscores_of, written_text}
use Rattle.written.proofs.Fewest.{Fewest, underscores_fewest, clash_free}
use Rattle.written.proofs.Tokens.{Ahead, first}
use Rattle.written.proofs.Words.{process_fine, state_fine, closes_fine}
use Rattle.written.proofs.Steps.{then_read}
use Rattle.written.proofs.Declared.{none_filled}
use Rattle.written.proofs.Lists.{Reads}
use Rattle.written.proofs.Stages.{GoodText, DeclaredNames}
use Rattle.written.proofs.Items.{TextRead, Stage}
use Rattle.written.proofs.Parts.{InitRead, EndRead, channel_part_read, process_part_read, clock_part_read, location_part_read, init_part_read, edge_part_read, end_part_read}
use Rattle.written.proofs.Same.{ReadBack}

-- nothing is declared and nothing is read
none_declared : (s : List ℕ) (words : List (List ℕ)) (u : ℕ) (t : Text)
    → DeclaredNames s words u t false 0 0 0 (replicate name_slots no_name)
none_declared s words u t = record {
  table = record {
    size = refl;
    each = λ i h. rw (none_filled i, blank name_slots i no_name)
        (record { size = refl; rest = s; there = refl });
  };
}

none_read : (s : List ℕ) (words : List (List ℕ)) (u : ℕ) (t : Text) → TextRead s words u t 0 0 0 0 no_text
unfolding no_text
none_read s words u t = record {
  channels = record {
    size = refl;
    count = refl;
    name = λ i h. absurd (omega arith);
    direction_is = λ i h. absurd (omega arith);
  };
  clocks = record { size = refl; count = refl; name = λ i h. absurd (omega arith) };
  locations = record {
    size = refl;
    count = refl;
    name = λ i h. absurd (omega arith);
    invariant_is = λ i h. absurd (omega arith);
  };
  edges = record { size = refl; count = refl; same = λ i h. absurd (omega arith) };
}

-- the locations' part begins with its word
record Opened (ws : Tokens) (w : List ℕ) : Type 0 where
  rest : Tokens
  is : ws ≡ w ∷ rest

location_opened : (u : ℕ) (t : Text) → Readable t → Opened (location_list u t) (bytes "state")
unfolding location_list list_tokens part_tokens numbered_items
location_opened u t formed = by t.location_count refl
  where
    by : (n : ℕ) → t.location_count ≡ n
        → Opened (list_tokens (bytes "state" ∷ []) (location_tokens u t) n) (bytes "state")
    by zero e = absurd (omega (arith, formed.init))
    by (suc n) e = record { rest = _; is = refl }

-- a text that is read to its end is accepted, with its record
read_back : (s : List ℕ) (words : List (List ℕ)) (u : ℕ) (t : Text) (r : Result State Fault)
    → IsOkAnd r (EndRead s words u t t.edge_count) → ReadBack s words u t (answer r)
read_back s words u t (Ok r) e = record {
  accepted_is = refl;
  same = record {
    channel_count = e.holds.stage.text_is.channels.count;
    clock_count = e.holds.stage.text_is.clocks.count;
    location_count = e.holds.stage.text_is.locations.count;
    edge_count = e.holds.stage.text_is.edges.count;
    init = e.holds.init_is;
    channel_names = e.holds.stage.text_is.channels.name;
    directions = e.holds.stage.text_is.channels.direction_is;
    clock_names = e.holds.stage.text_is.clocks.name;
    location_names = e.holds.stage.text_is.locations.name;
    invariants = e.holds.stage.text_is.locations.invariant_is;
    edges = e.holds.stage.text_is.edges.same;
  };
}
read_back s words u t (Err f) e = absurd e

module _ (words : List (List ℕ)) (u : ℕ) (t : Text) (formed : Readable t)
    (good : GoodNames words u t.channel_count t.clock_count t.location_count)
    (few : u ≤ channel_limit) where
  good_text : GoodText words u t
  good_text = record {
    channels = formed.channels;
    clocks = formed.clocks;
    locations = formed.locations;
    underscores = few;
    names = good;
  }

  -- the parts, one after the other
  parts_read : (s : List ℕ) → Ahead s 0 (text_tokens words u t)
      → IsOkAnd (read_whole shortest_tick s) (EndRead s words u t t.edge_count)
  unfolding read_whole text_tokens start
  parts_read s b =
      let c : ℕ = t.channel_count in
      let o : Opened (location_list u t) (bytes "state") = location_opened u t formed in
      let ends : Tokens = bytes "}" ∷ bytes "system" ∷ process_called u ∷ bytes ";" ∷ [] in
      let edges : Tokens = edge_list words u t ++ ends in
      let inits : Tokens = bytes "init" ∷ location_called u t.init ∷ bytes ";" ∷ edges in
      let placed : Tokens = location_list u t ++ inits in
      let inside : Tokens = clock_list u t.clock_count ++ placed in
      let head : Tokens = bytes "process" ∷ process_called u ∷ bytes "(" ∷ bytes ")" ∷ bytes "{" ∷ inside in
      let begun : Reads s (text_tokens words u t) (Stage s words u t false 0 0 0 0) start = record {
        before = b;
        holds = record { names_are = none_declared s words u t; text_is = none_read s words u t };
      } in
      let k : ℕ = t.clock_count in
      let l : ℕ = t.location_count in
      then_read _ _ (Reads s ends (InitRead s words u t t.edge_count)) (EndRead s words u t t.edge_count)
      (then_read _ _ (Reads s edges (InitRead s words u t 0)) (Reads s ends (InitRead s words u t t.edge_count))
      (then_read _ _ (Reads s inits (Stage s words u t true c k l 0)) (Reads s edges (InitRead s words u t 0))
      (then_read _ _ (Reads s placed (Stage s words u t true c k 0 0)) (Reads s inits (Stage s words u t true c k l 0))
      (then_read _ _ (Reads s inside (Stage s words u t true c 0 0 0)) (Reads s placed (Stage s words u t true c k 0 0))
      (then_read _ _ (Reads s head (Stage s words u t false c 0 0 0)) (Reads s inside (Stage s words u t true c 0 0 0))
      (channel_part_read good_text process_fine refl _ start begun)
      (process_part_read good_text inside))
      (λ q a. rw o.is (clock_part_read good_text c state_fine refl (o.rest ++ inits) q (rw o.is at a))))
      (λ q a. location_part_read good_text formed c inits q a))
      (init_part_read good_text formed edges))
      (edge_part_read good_text formed closes_fine refl _))
      (end_part_read good_text)

  whole_read : IsOkAnd (read_whole shortest_tick (written_with words u t)) (EndRead (written_with words u t) words u t
      t.edge_count)
  unfolding written_with
  whole_read = parts_read (written_with words u t) (first refl)

  -- a text that is written from a record is read to that record
  pub written_read : length (written_with words u t) ≤ largest_text
      → ReadBack (written_with words u t) words u t (read_text shortest_tick (written_with words u t))
  unfolding read_text tick_allowed
  written_read h =
      rw (le-ltb largest_text (length (written_with words u t)) h)
      (read_back (written_with words u t) words u t (read_whole shortest_tick (written_with words u t)) whole_read)

-- the same with the fewest underscores, which are always few enough
pub written_text_read : (words : List (List ℕ)) (t : Text) → Readable t → ChannelNames words t.channel_count
    → length (written_text words t) ≤ largest_text
    → ReadBack (written_text words t) words (underscores_of words t) t (read_text shortest_tick (written_text words t))
unfolding written_text underscores_of
written_text_read words t formed own =
    let f : Fewest words t.channel_count t.clock_count t.location_count (underscores_of words t) =
    underscores_fewest words t.channel_count t.clock_count t.location_count in
    written_read words (underscores_of words t) t formed
    (record {
      own = own;
      apart = clash_free words t.channel_count t.clock_count t.location_count (underscores_of words t)
          f.no_clash;
    })
    (omega (arith, f.few, formed.channels))
