-- An edge that is read: its locations, clocks and channel are declared, and its mark fits the channel's earlier uses.
use Rattle.std.specs.Prelude.{◌≡◌, refl, Bool, true, List, T, Result, Ok, IfOk, if◌then◌else◌, length, get_or, replicate}
use Rattle.std.proofs.Common.{sym, ap, ◌∙◌, arith, get_or-set_other}
use Rattle.std.proofs.Math.Bool.{false}
use Rattle.std.proofs.lemmas.Result.{IfOk-weaker}
use Prim.Native.Nat.{ℕ, zero, suc, ◌+◌, ◌≤◌, ◌<◌}
use Rattle.reader_parts.specs.Slots.{first_channel, first_clock, first_location}
use Rattle.reader_tokens.specs.Kinds as kinds
use Rattle.reader_record.specs.declared.Name.{Name}
use Rattle.reader_record.specs.declared.Channel.{Channel}
use Rattle.reader_record.specs.declared.Direction.{Direction}
use Rattle.reader_record.specs.declared.Direction.TheVariants as direction
use Rattle.reader_record.specs.declared.Label.{Label}
use Rattle.reader_record.specs.declared.Label.TheVariants as label
use Rattle.reader_record.specs.declared.Assignment.{Assignment}
use Rattle.reader_record.specs.Record.{no_channel, no_assignment, channel}
use Rattle.reader_record.specs.Formed.{agrees, FormedAssignments}
use Rattle.reader_parts.specs.declared.Fault.{Fault}
use Rattle.reader_parts.specs.declared.Use.{Use}
use Rattle.reader_parts.specs.Stages.{◌>>=◌, take, ahead}
use Rattle.reader_parts.specs.Binds.{and_then, after}
use Rattle.reader_edges.specs.declared.LabelRead.{LabelRead}
use Rattle.reader_edges.specs.declared.AssignRead.{AssignRead}
use Rattle.reader_edges.specs.declared.AssignsRead.{AssignsRead}
use Rattle.reader_edges.specs.declared.EdgeRead.{EdgeRead}
use Rattle.reader_edges.specs.Labels.{mark_next, fits, mark_judged, label_of, label_next}
use Rattle.reader_edges.specs.Assigns.{no_assignments, then_assigned, with_assignment, assign_next, assigns_from, assign_items, assigns}
use Rattle.reader_edges.specs.Edges.{edge_next}
use Rattle.reader_lists.specs.State.{direction_by}
use Rattle.reader_formed.proofs.Cases.{either, never, when_equal, set_each, blank}
use Rattle.reader_formed.proofs.Declared.{Used, used}
use Rattle.reader_formed.proofs.Slots.{Known, used_below}
use Rattle.reader_formed.proofs.Comparisons.{FormedComparisons, Constant, constant_read, IsConstraintRead, optional_read}
use Rattle.limits.specs.Limits.{channel_limit, clock_limit, location_limit, largest_constant}

-- a mark that is judged is right
judged_right : (right : Bool) (place p : ℕ) → IfOk (mark_judged right place p) (λ q. right ≡ true)
unfolding mark_judged
judged_right true place p = refl
judged_right false place p = tt

-- the label has the mark's direction and the channel's number, from 1
pub label_channel : (input : Bool) (k : ℕ) → channel (label_of input k) ≡ k + 1
unfolding label_of channel
label_channel true k = refl
label_channel false k = refl

pub label_agrees : (input : Bool) (k : ℕ) → T (agrees (label_of input k) (direction_by input))
unfolding label_of agrees direction_by
label_agrees true k = tt
label_agrees false k = tt

-- a label that agrees with the direction so far agrees with the mark that fits it
pub still_agrees :
    (l : Label) (d : Direction) (input : Bool) → fits d input ≡ true → T (agrees l d)
    → T (agrees l (direction_by input))
unfolding fits agrees direction_by
still_agrees (label.Input c) direction.Unused input f h = absurd h
still_agrees (label.Input c) direction.Input true f h = tt
still_agrees (label.Input c) direction.Input false f h = never (sym f)
still_agrees (label.Input c) direction.Output input f h = absurd h
still_agrees (label.Output c) direction.Unused input f h = absurd h
still_agrees (label.Output c) direction.Input input f h = absurd h
still_agrees (label.Output c) direction.Output true f h = never (sym f)
still_agrees (label.Output c) direction.Output false f h = tt

-- the direction of channel k, from 0, so far
abbrev pub direction_at : List Channel → ℕ → Direction
direction_at channels k = (get_or channels k no_channel).direction

-- a label that is read
record Labelled (s : List ℕ) (names : List Name) (channels : List Channel) (r : LabelRead) : Type 0 where
  right : fits (direction_at channels r.channel) r.input ≡ true
  same : r.label ≡ label_of r.input r.channel
  known : (count : ℕ) → Known s names first_channel channel_limit count → r.channel < count

labelled :
    (s : List ℕ) (p : ℕ) (names : List Name) (channels : List Channel)
    → IfOk (label_next s p names channels) (Labelled s names channels)
unfolding label_next
labelled s p names channels =
    after (take s p kinds.sync) _ _
    (λ a. and_then _ _ (Used names first_channel channel_limit false) _
    (used s names first_channel channel_limit (omega arith) false a)
    (λ channel u. after (mark_next s channel.end) _ _
    (λ mark. and_then _ _ (λ q. fits (direction_at channels channel.number) mark.input ≡ true) _
    (judged_right _ channel.place mark.end)
    (λ b r. after (take s b kinds.semicolon) _ _
    (λ q. record {
      right = r;
      same = refl;
      known = λ n k. used_below s names first_channel channel_limit n _ u k;
    })))))

-- no assignment, and one more
none_assigned : (count : ℕ) → FormedAssignments count no_assignments
unfolding no_assignments
none_assigned count = record {
  clock = λ k e. never (sym e ∙ ap (λ (a : Assignment). a.made) (none k));
  written = λ k. rw (none k) (omega arith);
  allowed = λ k. rw (none k) (omega arith);
}
  where
    none : (k : ℕ) → get_or (replicate clock_limit no_assignment) k no_assignment ≡ no_assignment
    none k = blank clock_limit k no_assignment

one_assigned :
    (count j v : ℕ) (all : List Assignment) → j < count → v ≤ largest_constant → FormedAssignments count all
    → FormedAssignments count (with_assignment all j v)
unfolding with_assignment then_assigned
one_assigned count j v all l b h = record {
  clock = λ k e.
      when_equal (k < count) k j
      (λ q. omega arith)
      (λ q. h.clock k (sym (ap (λ (a : Assignment). a.made) (get_or-set_other all j k _ no_assignment q)) ∙ e));
  written = λ k. set_each (λ a. a.value ≤ a.largest) all j k _ no_assignment (omega arith) (h.written k);
  allowed = λ k. set_each (λ a. a.largest ≤ largest_constant) all j k _ no_assignment (omega (arith, h.allowed j)) (h.allowed k);
}

module _ (period : ℕ) (s : List ℕ) (names : List Name) where
  -- an item of `assign` that is read
  record ItemRead (r : AssignRead) : Type 0 where
    known : (count : ℕ) → Known s names first_clock clock_limit count → r.clock < count
    bound : r.value ≤ largest_constant

  item_read : (p : ℕ) → IfOk (assign_next period s p names) ItemRead
  unfolding assign_next
  item_read p =
      and_then _ _ (Used names first_clock clock_limit false) _ (used s names first_clock clock_limit (omega arith) false p)
      (λ clock u. after (take s clock.end kinds.becomes) _ _
      (λ a. and_then _ _ (Constant 0) _ (constant_read period 0 s a)
      (λ given c. record { known = λ n k. used_below s names first_clock clock_limit n _ u k; bound = c.bound })))

  -- assignments that are read, after those before
  abbrev IsAssignsRead : List Assignment → AssignsRead → Type 0
  IsAssignsRead all r = (count : ℕ) → Known s names first_clock clock_limit count → FormedAssignments count all
      → FormedAssignments count r.assignments

  items_read : (room p : ℕ) (all : List Assignment) → IfOk (assigns_from period room s names p all) (IsAssignsRead all)
  unfolding assigns_from
  items_read zero p all = tt
  items_read (suc room) p all = and_then _ _ ItemRead _ (item_read p) (rest (items_read room))
    where
      P : Result AssignsRead Fault → Type 0
      P r = IfOk r (IsAssignsRead all)

      all_with : AssignRead → List Assignment
      all_with x = with_assignment all x.clock x.value

      one : (x : AssignRead) → ItemRead x → (n : ℕ) → Known s names first_clock clock_limit n
          → FormedAssignments n all → FormedAssignments n (all_with x)
      one x m n k h = one_assigned n x.clock x.value all (m.known n k) m.bound h

      rest : ((q : ℕ) (before : List Assignment) → IfOk (assigns_from period room s names q before) (IsAssignsRead before))
          → (x : AssignRead) → ItemRead x → P (if ahead s x.end kinds.comma
          then take s x.end kinds.comma >>= (λ q. assigns_from period room s names q (all_with x))
          else take s x.end kinds.semicolon >>= (λ q. Ok (record { assignments = all_with x; end = q })))
      rest again x m = either P (ahead s x.end kinds.comma)
          (after (take s x.end kinds.comma) (λ q. assigns_from period room s names q (all_with x)) (IsAssignsRead all)
          (λ q. IfOk-weaker _ (IsAssignsRead (all_with x)) (IsAssignsRead all)
          (λ r f n k h. f n k (one x m n k h)) (again q (all_with x))))
          (after (take s x.end kinds.semicolon) (λ q. Ok (record { assignments = all_with x; end = q })) (IsAssignsRead all)
          (λ q n k h. one x m n k h))

  assigns_read : (p : ℕ) → IfOk (assigns period s p names) (IsAssignsRead no_assignments)
  unfolding assigns assign_items
  assigns_read p =
      either (λ (r : Result AssignsRead Fault). IfOk r (IsAssignsRead no_assignments)) (ahead s p kinds.assign)
      (after (take s p kinds.assign) (λ q. assign_items period s names q no_assignments) (IsAssignsRead no_assignments)
      (λ q. items_read (suc (length s)) q no_assignments))
      (λ n k h. h)

-- an edge that is read
pub record IsEdgeRead (s : List ℕ) (names : List Name) (channels : List Channel) (over : Bool) (r : EdgeRead) : Type 0
  where
    pub room : over ≡ false
    pub right : fits (direction_at channels r.channel) r.input ≡ true
    pub label : r.edge.label ≡ label_of r.input r.channel
    pub known : (count : ℕ) → Known s names first_channel channel_limit count → r.channel < count
    pub guard : (count : ℕ) → Known s names first_clock clock_limit count → FormedComparisons count false r.edge.guard
    pub source : (count : ℕ) → Known s names first_location location_limit count → r.edge.source < count
    pub target : (count : ℕ) → Known s names first_location location_limit count → r.edge.target < count
    pub assigned : (count : ℕ) → Known s names first_clock clock_limit count → FormedAssignments count r.edge.assignments

module _ (period : ℕ) where
  pub edge_read :
      (s : List ℕ) (p : ℕ) (names : List Name) (channels : List Channel) (over : Bool)
      → IfOk (edge_next period s p names channels over) (IsEdgeRead s names channels over)
  unfolding edge_next
  edge_read s p names channels over =
      and_then _ _ (location over) _ (used s names first_location location_limit (omega arith) over p)
      (λ source o. after (take s source.end kinds.arrow) _ _
      (λ a. and_then _ _ (location false) _ (used s names first_location location_limit (omega arith) false a)
      (λ target t. after (take s target.end kinds.opens) _ _
      (λ b. and_then _ _ (IsConstraintRead period s names false) _
      (optional_read period kinds.guard false kinds.semicolon s b names)
      (λ given g. and_then _ _ (Labelled s names channels) _ (labelled s given.end names channels)
      (λ marked l. and_then _ _ (IsAssignsRead period s names no_assignments) _ (assigns_read period s names marked.end)
      (λ assigned a. after (take s assigned.end kinds.closes) _ _
      (λ q. record {
        room = o.allowed;
        right = l.right;
        label = l.same;
        known = l.known;
        guard = g;
        source = λ n k. used_below s names first_location location_limit n _ o k;
        target = λ n k. used_below s names first_location location_limit n _ t k;
        assigned = λ n k. a n k (none_assigned n);
      }))))))))
    where
      location : Bool → Use → Type 0
      location = Used names first_location location_limit
