-- A record that the code built, which says what a joined record says: its states can be counted, and it is written as
-- that record is.
use Rattle.std.specs.Prelude.{◌≡◌, List, ℕ, ◌<◌}
use Rattle.std.proofs.Common.{sym, ap, ◌∙◌, arith}
use Rattle.reader_record.specs.declared.Constraint.{Constraint}
use Rattle.reader_record.specs.declared.Assignment.{Assignment}
use Rattle.reader_record.specs.declared.Edge.{Edge}
use Rattle.reader_record.specs.declared.Text.{Text}
use Rattle.reader_record.specs.Formed.{FormedConstraint, FormedAssignments, WellFormed}
use Rattle.reader_formed.specs.Promise.{channel_name, NamesWithin}
use Rattle.clocks_states.specs.Parts.{Countable}
use Rattle.written_names.specs.Spelled.{channel_spellings}
use Rattle.written_names.specs.Inside.{names_in}
use Rattle.written_names.specs.InsideLaws.{spellings_of, names_same, names_inside}
use Rattle.writer_lists.specs.Lists.{TextWithin}
use Rattle.joined.proofs.Alike.{AlikeConstraint, AlikeEdge, Alike}

alike_formed : (n : ℕ) (g h : Constraint) → AlikeConstraint g h → FormedConstraint n g → FormedConstraint n h
alike_formed n g h a w = record {
  few = rw a.count w.few;
  clock = λ i l. let k : i < g.count = omega (arith, a.count, l) in rw (a.each i k) (w.clock i k);
  bound = λ i l. let k : i < g.count = omega (arith, a.count, l) in rw (a.each i k) (w.bound i k);
}

alike_assigned : (n : ℕ) (e d : Edge) → AlikeEdge e d → FormedAssignments n e.assignments
    → FormedAssignments n d.assignments
alike_assigned n e d a w = record {
  clock = λ k m. w.clock k (ap (λ (c : Assignment). c.made) (sym (a.assignments k)) ∙ m);
  written = λ k. rw (a.assignments k) (w.written k);
  allowed = λ k. rw (a.assignments k) (w.allowed k);
}

pub alike_countable : (t x : Text) → Alike t x → WellFormed t → Countable x
alike_countable t x a w = record {
  locations = rw a.location_count w.locations;
  edges = rw a.edge_count w.edges;
  invariant = λ l h.
      let k : l < t.location_count = omega (arith, a.location_count, h) in
      rw a.clock_count (alike_formed t.clock_count _ _ (a.invariants l k) (w.invariant l k));
  guard = λ i h.
      let k : i < t.edge_count = omega (arith, a.edge_count, h) in
      rw a.clock_count (alike_formed t.clock_count _ _ (a.edges i k).guard (w.guard i k));
  assigned = λ i h.
      let k : i < t.edge_count = omega (arith, a.edge_count, h) in
      rw a.clock_count (alike_assigned t.clock_count _ _ (a.edges i k) (w.assigned i k));
}

-- channels with the same names are spelled alike
pub spellings_same : (s : List ℕ) (l x : Text) → x.channel_count ≡ l.channel_count
    → ((i : ℕ) → i < l.channel_count → channel_name x i ≡ channel_name l i)
    → channel_spellings s x ≡ channel_spellings s l
spellings_same s l x e h =
    sym (spellings_of s x) ∙ ap (names_in s x.channels) e
    ∙ names_same s x.channels l.channels l.channel_count h ∙ spellings_of s l

-- it can be written, with the names of the channels of the text s, whose record l has them
pub alike_within : (s : List ℕ) (l t x : Text) → Alike t x → WellFormed t → NamesWithin s l
    → t.channel_count ≡ l.channel_count
    → ((i : ℕ) → i < l.channel_count → channel_name x i ≡ channel_name l i) → TextWithin s x
alike_within s l t x a w n e h = record {
  few_channels = rw a.channel_count w.channels;
  few_clocks = rw a.clock_count w.clocks;
  locations = record {
    few = rw a.location_count w.locations;
    invariants = λ i k.
        let j : i < t.location_count = omega (arith, a.location_count, k) in
        rw (a.invariants i j).count (w.invariant i j).few;
  };
  few_edges = rw a.edge_count w.edges;
  guards = λ i k.
      let j : i < t.edge_count = omega (arith, a.edge_count, k) in
      rw (a.edges i j).guard.count (w.guard i j).few;
  labels = λ i k.
      let j : i < t.edge_count = omega (arith, a.edge_count, k) in
      rw ((a.edges i j).label, a.channel_count) (w.label i j);
  inside = λ i k.
      let j : i < l.channel_count = omega (arith, a.channel_count, e, k) in
      rw (h i j) (names_inside s l n i j);
}
