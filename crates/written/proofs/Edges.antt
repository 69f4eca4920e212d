-- An edge that is written is read back.
use Rattle.std.specs.Prelude.{◌≡◌, refl, true, false, List, [], ◌∷◌, ◌++◌, ℕ, ◌-◌, ◌≤◌, ◌<◌, IsOkAnd, get_or}
use Rattle.std.proofs.Common.{append_assoc}
use Rattle.reader_tokens.specs.Scan.{bytes}
use Rattle.limits.specs.Limits.{shortest_tick, clock_limit, channel_limit, location_limit}
use Rattle.reader_record.specs.Record.{no_channel, channel}
use Rattle.reader_record.specs.Formed.{FormedConstraint}
use Rattle.reader_record.specs.declared.Name.{Name}
use Rattle.reader_record.specs.declared.Channel.{Channel}
use Rattle.reader_record.specs.declared.Edge.{Edge}
use Rattle.reader_parts.specs.Slots.{first_channel, first_clock, first_location}
use Rattle.reader_edges.specs.declared.EdgeRead.{EdgeRead}
use Rattle.reader_edges.specs.Labels.{fits}
use Rattle.reader_edges.specs.Edges.{edge_next}
use Rattle.written.specs.Spaced.{Tokens}
use Rattle.written.specs.Written.{clock_called, location_called, constraint_tokens, label_tokens, assignments_tokens, edge_tokens}
use Rattle.written.proofs.Good.{AllowedValues}
use Rattle.written.proofs.Tokens.{Ahead}
use Rattle.written.proofs.Words.{sync_fine, closes_fine, opens_fine, arrow_fine}
use Rattle.written.proofs.Steps.{taken, then_read}
use Rattle.written.proofs.Slots.{Uses}
use Rattle.written.proofs.Constraints.{KindKnown, known_used, ConstraintReads, guard_read}
use Rattle.written.proofs.Same.{is_input_label, SameEdge}
use Rattle.written.proofs.Labels.{LabelReads, label_read}
use Rattle.written.proofs.Assigns.{AssignmentsRead, assignments_read}

-- the names that edges use are declared
pub record NamesKnown (s : List ℕ) (names : List Name) (words : List (List ℕ))
    (u channels clocks locations : ℕ) : Type 0 where
  pub few_channels : channels ≤ channel_limit
  pub few_clocks : clocks ≤ clock_limit
  pub few_locations : locations ≤ location_limit
  pub channel_names : KindKnown s names first_channel channels (λ i. get_or words i [])
  pub clock_names : KindKnown s names first_clock clocks (clock_called u)
  pub location_names : KindKnown s names first_location locations (location_called u)

-- the numbers of an edge are those of things that are there
pub record EdgeFormed (channels clocks locations : ℕ) (e : Edge) : Type 0 where
  pub source : e.source < locations
  pub target : e.target < locations
  pub guard_formed : FormedConstraint clocks e.guard
  pub some : 0 < channel e.label
  pub declared : channel e.label ≤ channels
  pub allowed : AllowedValues clocks e.assignments

pub record EdgeReads (s : List ℕ) (ws : Tokens) (clocks : ℕ) (e : Edge) (r : EdgeRead) : Type 0 where
  pub before : Ahead s r.end ws
  pub channel_is : r.channel ≡ channel e.label - 1
  pub input_is : r.input ≡ is_input_label e.label
  pub same : SameEdge clocks e r.edge

pub edge_tokens_read : {s : List ℕ} {names : List Name} (words : List (List ℕ)) (u : ℕ) {channels clocks locations : ℕ}
    → NamesKnown s names words u channels clocks locations → (e : Edge) → EdgeFormed channels clocks locations e
    → (uses : List Channel)
    → fits (get_or uses (channel e.label - 1) no_channel).direction (is_input_label e.label) ≡ true
    → (ws : Tokens) {p : ℕ} → Ahead s p (edge_tokens words u clocks e ++ ws)
    → IsOkAnd (edge_next shortest_tick s p names uses false) (EdgeReads s ws clocks e)
unfolding edge_tokens edge_next label_tokens
edge_tokens_read {s} {names} words u {clocks = clocks} known e formed uses right ws {p} b =
    let end : Tokens = assignments_tokens u clocks e.assignments ++ (bytes "}" ∷ ws) in
    let named : Tokens = label_tokens words e.label ++ end in
    let inside : Tokens = constraint_tokens (bytes "guard") (bytes ";") u e.guard ++ named in
    let target : Tokens = location_called u e.target ∷ bytes "{" ∷ inside in
    let shaped : Ahead s p (location_called u e.source ∷ bytes "->" ∷ target) = simp append_assoc at b in
    let read : EdgeRead → Type 0 = EdgeReads s ws clocks e in
    then_read _ _ (Uses s (bytes "->" ∷ target) e.source) read
    (known_used known.location_names location_limit e.source formed.source known.few_locations shaped)
    (λ source o. then_read _ _ (λ q. Ahead s q target) read (taken arrow_fine o.before)
    (λ q1 a1. then_read _ _ (Uses s (bytes "{" ∷ inside) e.target) read
    (known_used known.location_names location_limit e.target formed.target known.few_locations a1)
    (λ to t. then_read _ _ (λ q. Ahead s q inside) read (taken opens_fine t.before)
    (λ q2 a2. then_read _ _ (ConstraintReads s named e.guard) read
    (guard_read u known.clock_names known.few_clocks e.guard formed.guard_formed sync_fine refl _ a2)
    (λ given g. then_read _ _ (LabelReads s end e.label) read
    (label_read words known.channel_names known.few_channels e.label formed.some formed.declared uses right end g.before)
    (λ marked l. then_read _ _ (AssignmentsRead s (bytes "}" ∷ ws) clocks e.assignments) read
    (assignments_read u known.clock_names known.few_clocks e.assignments formed.allowed closes_fine refl ws l.before)
    (λ assigned a. then_read _ _ (λ q. Ahead s q ws) read (taken closes_fine a.before)
    (λ q3 a3. record {
      before = a3;
      channel_is = l.channel_is;
      input_is = l.input_is;
      same = record {
        source = o.number_is;
        target = t.number_is;
        guard = g.same;
        label = l.is;
        assignments = a.same;
        no_more = a.no_more;
      };
    }))))))))
