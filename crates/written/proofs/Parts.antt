-- The parts of a written text are read back, in their order.
use Rattle.std.specs.Prelude.{◌≡◌, IfOk, IsOkAnd, leb, eqb}
use Rattle.std.proofs.Math.Path.{refl}
use Rattle.std.proofs.Common.{◌∙◌, arith}
use Rattle.std.proofs.Math.Bool.{true, false}
use mathlib.Core.List.{List, [], ◌∷◌, ◌++◌}
use Prim.Native.Nat.{ℕ, zero, suc, ◌<◌}
use Rattle.std.proofs.Math.ListN.{get_or}
use Rattle.reader_tokens.specs.Kinds as kinds
use Rattle.reader_tokens.specs.Scan.{bytes, is_letter}
use Rattle.limits.specs.Limits.{shortest_tick, location_limit, edge_limit}
use Rattle.reader_record.specs.Record.{edge}
use Rattle.reader_record.specs.declared.Name.{Name}
use Rattle.reader_record.specs.declared.Text.{Text}
use Rattle.reader_parts.specs.declared.Declaration.{Declaration}
use Rattle.reader_parts.specs.Stages.{◌>>=◌}
use Rattle.reader_parts.specs.Binds.{after}
use Rattle.reader_parts.specs.Slots.{process_slot, process_limit}
use Rattle.reader_edges.specs.Edges.{edge_next}
use Rattle.reader_lists.specs.Lists.Item.{Channel, Clock, Location, Edge}
use Rattle.reader_lists.specs.State.{State, next_token, with_init, with_edge}
use Rattle.reader_lists.specs.Lists.{edge_item}
use Rattle.reader.specs.Reading.{list_part, channel_part, process_read, process_part, clock_part, location_part, init_read, init_part, edge_part, end_read, end_part}
use Rattle.written.specs.Spaced.{Tokens, later_items, part_tokens, numbered_items}
use Rattle.written.specs.Written.{process_called, clock_called, location_called, location_tokens, edge_tokens, list_tokens, channel_list, clock_list, location_list, edge_list}
use Rattle.written.proofs.Good.{IsName, Readable}
use Rattle.written.proofs.Tokens.{Fine, Ahead}
use Rattle.written.proofs.Words.{broadcast_fine, chan_fine, process_fine, clock_fine, state_fine, init_fine, trans_fine, system_fine, left_paren_fine, right_paren_fine, opens_fine, closes_fine, semicolon_fine}
use Rattle.written.proofs.Steps.{taken, end_taken, then_read, read_also}
use Rattle.written.proofs.Names.{name_fine, called_name}
use Rattle.written.proofs.Slots.{Declares, name_declared, Uses}
use Rattle.written.proofs.Constraints.{known_used}
use Rattle.written.proofs.Lists.{Reads, ReadsItem, next_read, items_read, optional_list_read}
use Rattle.written.proofs.Stages.{GoodText, DeclaredNames, process_found, locations_found, process_fresh, process_added}
use Rattle.written.proofs.Items.{Stage, channel_item_read, clock_item_read, location_item_read, edge_item_read}

-- the record with its starting location
pub record InitRead (s : List ℕ) (words : List (List ℕ)) (u : ℕ) (t : Text) (e : ℕ) (names : List Name)
    (x : Text) : Type 0 where
  pub init_is : x.init ≡ t.init
  pub stage : Stage s words u t true t.channel_count t.clock_count t.location_count e names x

-- the text is read to its end
pub record EndRead (s : List ℕ) (words : List (List ℕ)) (u : ℕ) (t : Text) (e : ℕ) (r : State) : Type 0 where
  pub holds : InitRead s words u t e r.names r.text

edge_init : (s : List ℕ) (r : State) → IfOk (edge_item shortest_tick s r) (λ q. q.text.init ≡ r.text.init)
unfolding edge_item with_edge
edge_init s r =
    after (edge_next shortest_tick s r.place r.names r.text.channels (leb edge_limit r.text.edge_count)) _
    (λ q. q.text.init ≡ r.text.init) (λ e. refl)

module _ {s : List ℕ} {words : List (List ℕ)} {u : ℕ} {t : Text} (good : GoodText words u t) where
  pub channel_part_read : {w : List ℕ} {j : ℕ} → Fine w j → eqb j kinds.broadcast ≡ false → (ws : Tokens) (r : State)
      → Reads s (channel_list words t.channel_count ++ (w ∷ ws)) (Stage s words u t false 0 0 0 0) r
      → IsOkAnd (channel_part shortest_tick s r) (Reads s (w ∷ ws) (Stage s words u t false t.channel_count 0 0 0))
  unfolding channel_part channel_list
  channel_part_read f apart ws r b =
      optional_list_read s Channel (λ i. get_or words i [] ∷ []) t.channel_count
      (λ i. Stage s words u t false i 0 0 0)
      (channel_item_read good) good.channels broadcast_fine (bytes "chan" ∷ [])
      (λ q. next_token s kinds.broadcast q >>= next_token s kinds.chan)
      (λ ws q b. then_read _ _ (Reads s (bytes "chan" ∷ ws) (Stage s words u t false 0 0 0 0))
      (Reads s ws (Stage s words u t false 0 0 0 0)) (next_read broadcast_fine b) (λ x a. next_read chan_fine a))
      f apart ws r b

  process_is_read : {c : ℕ} {names : List Name} → DeclaredNames s words u t false c 0 0 names → {ws : Tokens} {p : ℕ}
      → Ahead s p (bytes "process" ∷ process_called u ∷ bytes "(" ∷ bytes ")" ∷ bytes "{" ∷ ws)
      → IsOkAnd (process_read s p names) (Declares s (process_called u) ws names 0)
  unfolding process_read is_letter
  process_is_read {names = names} known {ws} b =
      let end : Tokens = bytes "(" ∷ bytes ")" ∷ bytes "{" ∷ ws in
      let m : IsName (process_called u) = called_name "p" refl u 0 good.underscores (omega arith) in
      let read : Declaration → Type 0 = Declares s (process_called u) ws names 0 in
      then_read _ _ (λ q. Ahead s q (process_called u ∷ end)) read (taken process_fine b)
      (λ q1 a1. then_read _ _ (Declares s (process_called u) end names 0) read
      (name_declared names (name_fine (process_called u) m) m.few process_slot process_limit 0 (omega arith)
      (process_fresh good known) a1)
      (λ y d. then_read _ _ (λ q. Ahead s q (bytes ")" ∷ bytes "{" ∷ ws)) read (taken left_paren_fine d.before)
      (λ q2 a2. then_read _ _ (λ q. Ahead s q (bytes "{" ∷ ws)) read (taken right_paren_fine a2)
      (λ q3 a3. then_read _ _ (λ q. Ahead s q ws) read (taken opens_fine a3)
      (λ q4 a4. record { before = a4; spells = d.spells; names_are = d.names_are })))))

  pub process_part_read : {c : ℕ} (ws : Tokens) (r : State)
      → Reads s (bytes "process" ∷ process_called u ∷ bytes "(" ∷ bytes ")" ∷ bytes "{" ∷ ws)
      (Stage s words u t false c 0 0 0) r
      → IsOkAnd (process_part s r) (Reads s ws (Stage s words u t true c 0 0 0))
  unfolding process_part
  process_part_read {c} ws r b =
      then_read _ _ (Declares s (process_called u) ws r.names 0) (Reads s ws (Stage s words u t true c 0 0 0))
      (process_is_read b.holds.names_are b.before)
      (λ y d. record {
        before = d.before;
        holds = record {
          names_are = rw d.names_are (process_added good b.holds.names_are y.name d.spells);
          text_is = b.holds.text_is;
        };
      })

  pub clock_part_read : (c : ℕ) {w : List ℕ} {j : ℕ} → Fine w j → eqb j kinds.clock ≡ false → (ws : Tokens) (r : State)
      → Reads s (clock_list u t.clock_count ++ (w ∷ ws)) (Stage s words u t true c 0 0 0) r
      → IsOkAnd (clock_part shortest_tick s r) (Reads s (w ∷ ws) (Stage s words u t true c t.clock_count 0 0))
  unfolding list_part clock_list
  clock_part_read c f apart ws r b =
      optional_list_read s Clock (λ i. clock_called u i ∷ []) t.clock_count (λ i. Stage s words u t true c i 0 0)
      (clock_item_read good c) good.clocks clock_fine [] (next_token s kinds.clock)
      (λ ws q b. next_read clock_fine b) f apart ws r b

  module _ (formed : Readable t) where
    pub location_part_read : (c : ℕ) (ws : Tokens) (r : State)
        → Reads s (location_list u t ++ ws) (Stage s words u t true c t.clock_count 0 0) r
        → IsOkAnd (location_part shortest_tick s r) (Reads s ws (Stage s words u t true c t.clock_count t.location_count 0))
    unfolding location_part location_list list_tokens part_tokens numbered_items
    location_part_read c ws r b = by t.location_count refl b
      where
        none : List Name → Text → Type 0
        none = Stage s words u t true c t.clock_count 0 0

        all : State → Type 0
        all = Reads s ws (Stage s words u t true c t.clock_count t.location_count 0)

        by : (n : ℕ) → t.location_count ≡ n
            → Reads s (part_tokens (bytes "state" ∷ []) (bytes ",") (bytes ";")
            (numbered_items (location_tokens u t) 0 n) ++ ws) none r
            → IsOkAnd (location_part shortest_tick s r) all
        by zero e b = absurd (omega (arith, formed.init))
        by (suc m) e b =
            let items : Tokens = location_tokens u t 0
            ++ later_items (bytes ",") (bytes ";") (numbered_items (location_tokens u t) 1 m) in
            then_read _ _ (Reads s (items ++ ws) none) all (next_read state_fine b)
            (λ q a. items_read s Location (location_tokens u t) t.location_count
            (λ i. Stage s words u t true c t.clock_count i 0)
            (location_item_read good formed c) good.locations m e ws q a)

    init_is_read : {names : List Name}
        → DeclaredNames s words u t true t.channel_count t.clock_count t.location_count names → {ws : Tokens} {p : ℕ}
        → Ahead s p (bytes "init" ∷ location_called u t.init ∷ bytes ";" ∷ ws)
        → IsOkAnd (init_read s p names) (Uses s ws t.init)
    unfolding init_read
    init_is_read known {ws} b =
        then_read _ _ (λ q. Ahead s q (location_called u t.init ∷ bytes ";" ∷ ws)) (Uses s ws t.init) (taken init_fine b)
        (λ q1 a1. then_read _ _ (Uses s (bytes ";" ∷ ws) t.init) (Uses s ws t.init)
        (known_used (locations_found good known (omega arith)) location_limit t.init formed.init good.locations a1)
        (λ y v. then_read _ _ (λ q. Ahead s q ws) (Uses s ws t.init) (taken semicolon_fine v.before)
        (λ q2 a2. record { before = a2; number_is = v.number_is })))

    pub init_part_read : (ws : Tokens) (r : State)
        → Reads s (bytes "init" ∷ location_called u t.init ∷ bytes ";" ∷ ws)
        (Stage s words u t true t.channel_count t.clock_count t.location_count 0) r
        → IsOkAnd (init_part s r) (Reads s ws (InitRead s words u t 0))
    unfolding init_part with_init
    init_part_read ws r b =
        then_read _ _ (Uses s ws t.init) (Reads s ws (InitRead s words u t 0)) (init_is_read b.holds.names_are b.before)
        (λ y v. record {
          before = v.before;
          holds = record {
            init_is = v.number_is;
            stage = record {
              names_are = b.holds.names_are;
              text_is = record {
                channels = b.holds.text_is.channels;
                clocks = b.holds.text_is.clocks;
                locations = b.holds.text_is.locations;
                edges = b.holds.text_is.edges;
              };
            };
          };
        })

    -- an edge leaves the starting location
    started_item : (i : ℕ) → i < t.edge_count
        → ReadsItem s (λ i. edge_tokens words u t.clock_count (edge t i)) (InitRead s words u t)
        (edge_item shortest_tick s) i
    started_item i h w j f apart ws r b =
        read_also _ (Reads s (w ∷ ws) (Stage s words u t true t.channel_count t.clock_count t.location_count (suc i)))
        (λ q. q.text.init ≡ r.text.init) (Reads s (w ∷ ws) (InitRead s words u t (suc i)))
        (edge_item_read good formed i h w j f apart ws r (record { before = b.before; holds = b.holds.stage }))
        (edge_init s r)
        (λ q v e. record { before = v.before; holds = record { init_is = e ∙ b.holds.init_is; stage = v.holds } })

    pub edge_part_read : {w : List ℕ} {j : ℕ} → Fine w j → eqb j kinds.trans ≡ false → (ws : Tokens) (r : State)
        → Reads s (edge_list words u t ++ (w ∷ ws)) (InitRead s words u t 0) r
        → IsOkAnd (edge_part shortest_tick s r) (Reads s (w ∷ ws) (InitRead s words u t t.edge_count))
    unfolding list_part edge_list
    edge_part_read f apart ws r b =
        optional_list_read s Edge (λ i. edge_tokens words u t.clock_count (edge t i)) t.edge_count
        (InitRead s words u t)
        started_item formed.edges trans_fine [] (next_token s kinds.trans)
        (λ ws q b. next_read trans_fine b) f apart ws r b

  end_is_read : {c k l : ℕ} {names : List Name} → DeclaredNames s words u t true c k l names → {p : ℕ}
      → Ahead s p (bytes "}" ∷ bytes "system" ∷ process_called u ∷ bytes ";" ∷ [])
      → IsOkAnd (end_read s p names) (λ q. Unit {0})
  unfolding end_read
  end_is_read known b =
      then_read _ _ (λ q. Ahead s q (bytes "system" ∷ process_called u ∷ bytes ";" ∷ [])) _ (taken closes_fine b)
      (λ q1 a1. then_read _ _ (λ q. Ahead s q (process_called u ∷ bytes ";" ∷ [])) _ (taken system_fine a1)
      (λ q2 a2. then_read _ _ (Uses s (bytes ";" ∷ []) 0) _
      (known_used (process_found good known refl) process_limit 0 (omega arith) (omega arith) a2)
      (λ y v. then_read _ _ (λ q. Ahead s q []) _ (taken semicolon_fine v.before) (λ q3 a3. end_taken a3))))

  pub end_part_read : {e : ℕ} (r : State)
      → Reads s (bytes "}" ∷ bytes "system" ∷ process_called u ∷ bytes ";" ∷ []) (InitRead s words u t e) r
      → IsOkAnd (end_part s r) (EndRead s words u t e)
  unfolding end_part
  end_part_read {e} r b =
      then_read _ _ (λ q. Unit {0}) (EndRead s words u t e) (end_is_read b.holds.stage.names_are b.before)
      (λ q a. record { holds = b.holds })
