-- The record of an accepted text is well formed, its names lie within the text, and they differ.
use Rattle.std.specs.Prelude.{◌≡◌, refl, Bool, true, List, ℕ, ◌+◌, ◌-◌, ◌<◌, ltb, length, Result, Ok, Err, IfOk, ⊤}
use Rattle.std.proofs.Common.{arith}
use Rattle.std.proofs.Math.Bool.{false}
use Rattle.reader_parts.specs.Slots.{process_slot, process_limit, first_location}
use Rattle.reader_tokens.specs.Kinds as kinds
use Rattle.reader_record.specs.declared.Name.{Name}
use Rattle.reader_record.specs.declared.Constraint.{Constraint}
use Rattle.reader_record.specs.declared.Text.{Text}
use Rattle.reader_record.specs.Formed.{FormedConstraint, WellFormed}
use Rattle.reader_parts.specs.declared.Fault.{Fault}
use Rattle.reader_parts.specs.Stages.{◌>>=◌, take, ahead}
use Rattle.reader_parts.specs.Binds.{and_then, after}
use Rattle.reader_lists.specs.Lists.{Item}
use Rattle.reader_lists.specs.Lists.Item.{Channel, Clock, Location, Edge}
use Rattle.reader_lists.specs.State.{State}
use Rattle.reader_lists.specs.State.{next_token}
use Rattle.reader_lists.specs.Lists.{items}
use Rattle.refusals.specs.declared.Refusal.{Refusal}
use Rattle.refusals.specs.Answers.{answer_of}
use Rattle.reader.specs.Reading.{start, channel_part, list_part, process_read, process_part, location_part, init_read, init_part, end_read, end_part, read_whole, answer, record_of, read_text}
use Rattle.reader_formed.specs.Promise.{NamesWithin, NamesDiffer, Unlike}
use Rattle.reader_formed.proofs.Cases.{split, either}
use Rattle.reader_formed.proofs.Declared.{Declared, declared, Used, used}
use Rattle.reader_formed.proofs.Slots.{Kind, Differ, used_below}
use Rattle.reader_formed.proofs.Comparisons.{FormedComparisons}
use Rattle.reader_formed.proofs.State.{SoFar, process_more, init_chosen}
use Rattle.reader_formed.proofs.Lists.{Good, Keeps, then, next_keeps, fresh, locations_known, list_keeps}
use Rattle.reader_formed.proofs.Start.{start_good}
use Rattle.limits.specs.Limits.{largest_text, location_limit, tick_allowed}

module _ (s : List ℕ) where
  process_declared : (p : ℕ) (names : List Name)
      → IfOk (process_read s p names) (Declared s names process_slot 0 process_limit)
  unfolding process_read
  process_declared p names =
      after (take s p kinds.process) _ (Declared s names process_slot 0 process_limit)
      (λ a. and_then _ _ (Declared s names process_slot 0 process_limit) (Declared s names process_slot 0 process_limit)
      (declared s names process_slot 0 process_limit a)
      (λ d x. after (take s d.end kinds.left_paren) _ (Declared s names process_slot 0 process_limit)
      (λ b. after (take s b kinds.right_paren) _ (Declared s names process_slot 0 process_limit)
      (λ c. after (take s c kinds.opens) _ (Declared s names process_slot 0 process_limit)
      (λ e. record { name = x.name; room = x.room; other = x.other; stored = x.stored })))))

  process_kept : (r : State) → Keeps 0 0 s r (process_part s r)
  unfolding process_part
  process_kept r = record {
    good = λ h.
        and_then _ _ (Declared s r.names process_slot 0 process_limit) (Good 0 s) (process_declared r.place r.names)
        (λ d x. rw x.stored (process_more 0 s r.names r.text h d.name (fresh s x)));
  }

  init_used : (p : ℕ) (names : List Name)
      → IfOk (init_read s p names) (Used names first_location location_limit false)
  unfolding init_read
  init_used p names =
      after (take s p kinds.init) _ (Used names first_location location_limit false)
      (λ a. and_then _ _ (Used names first_location location_limit false) (Used names first_location location_limit false)
      (used s names first_location location_limit (omega arith) false a)
      (λ u x. after (take s u.end kinds.semicolon) _ (Used names first_location location_limit false)
      (λ b. record { allowed = x.allowed; number = x.number; filled = x.filled })))

  init_kept : (r : State) → Keeps 0 1 s r (init_part s r)
  unfolding init_part
  init_kept r = record {
    good = λ h.
        and_then _ _ (Used r.names first_location location_limit false) (Good 1 s) (init_used r.place r.names)
        (λ u x. init_chosen s r.names r.text u.number
        (used_below s r.names first_location location_limit _ u x (locations_known s h)) h);
  }

  end_kept : (r : State) → Keeps 1 1 s r (end_part s r)
  unfolding end_part
  end_kept r = record { good = λ h. after (end_read s r.place r.names) _ (Good 1 s) (λ p. h) }

module _ (period : ℕ) (s : List ℕ) where
  list_kept : {a : ℕ} (word : ℕ) (k : Item) (r : State) → Keeps a a s r (list_part period word k s r)
  unfolding list_part
  list_kept {a} word k r =
      either (λ (q : Result State Fault). Keeps a a s r q) (ahead s r.place word)
      (then s (next_token s word r) (items period k s) (next_keeps s word r) (list_keeps s period k))
      (record { good = λ h. h })

  channels_kept : (r : State) → Keeps 0 0 s r (channel_part period s r)
  unfolding channel_part
  channels_kept r =
      either (λ (q : Result State Fault). Keeps 0 0 s r q) (ahead s r.place kinds.broadcast)
      (then s (next_token s kinds.broadcast r >>= next_token s kinds.chan) (items period Channel s)
      (then s (next_token s kinds.broadcast r) (next_token s kinds.chan) (next_keeps s kinds.broadcast r)
      (next_keeps s kinds.chan))
      (list_keeps s period Channel))
      (record { good = λ h. h })

  locations_kept : (r : State) → Keeps 0 0 s r (location_part period s r)
  unfolding location_part
  locations_kept r = then s (next_token s kinds.state r) (items period Location s) (next_keeps s kinds.state r)
      (list_keeps s period Location)

  whole_kept : Keeps 0 1 s start (read_whole period s)
  unfolding read_whole
  whole_kept =
      then s _ _ (then s _ _ (then s _ _ (then s _ _ (then s _ _ (then s _ _ (channels_kept start) (process_kept s))
      (list_kept kinds.clock Clock)) locations_kept) (init_kept s)) (list_kept kinds.trans Edge)) (end_kept s)

  whole_good : IfOk (read_whole period s) (Good 1 s)
  whole_good = whole_kept.good (start_good s)

constraint_formed :
    (clocks : ℕ) (only : Bool) (c : Constraint) → FormedComparisons clocks only c → FormedConstraint clocks c
constraint_formed clocks only c f = record {
  few = f.few;
  clock = λ i l. (f.each i l).clock;
  bound = λ i l. (f.each i l).bound;
}

-- what is promised of a record
record Promised (s : List ℕ) (t : Text) : Type 0 where
  formed : WellFormed t
  within : NamesWithin s t
  differ : NamesDiffer s t

formed_of : (s : List ℕ) (names : List Name) (t : Text) → SoFar 1 s names t → WellFormed t
formed_of s names t h = record {
  channels = h.named.channels.few;
  clocks = h.named.clocks.few;
  locations = h.named.locations.few;
  edges = h.read.few;
  init = omega (arith, h.read.init);
  invariant = λ l q. constraint_formed t.clock_count true _ (h.read.invariant l q);
  upper = λ l i q r. ((h.read.invariant l q).each i r).sign refl;
  guard = λ i l. constraint_formed t.clock_count false _ (h.read.edge i l).guard;
  source = λ i l. (h.read.edge i l).source;
  target = λ i l. (h.read.edge i l).target;
  direction = λ i l. (h.read.edge i l).direction;
  label = λ i l. ((h.read.edge i l).from_one, (h.read.edge i l).declared);
  assigned = λ i l. (h.read.edge i l).assigned;
  used = λ c a b q. let (i, l, e) = h.read.used (c - 1) q in
      (i, l, omega arith);
}

-- two names in different slots differ
module _ {s : List ℕ} {names : List Name} (d : Differ s names) where
  apart :
      {first limit count : ℕ} {named : ℕ → Name} → Kind s names first limit count named →
      {first' limit' count' : ℕ} {named' : ℕ → Name} → Kind s names first' limit' count' named' →
      (i j : ℕ) → i < count → j < count' → (first + i ≡ first' + j → ⊥) → Unlike s (named i) (named' j)
  unfolding Differ
  apart {first} k {first'} m i j a b e =
      rw (k.filled i a, m.filled j b) at (d (first + i) (first' + j) e (rw (k.filled i a) (k.within i a).some))

promised : (s : List ℕ) (names : List Name) (t : Text) → SoFar 1 s names t → Promised s t
promised s names t h =
    let n = h.named in
    record {
      formed = formed_of s names t h;
      within = record { channel = n.channels.within; clock = n.clocks.within; location = n.locations.within };
      differ = record {
        channels = λ c d a b e. apart n.differ n.channels n.channels c d a b (λ q. e (omega arith));
        clocks = λ c d a b e. apart n.differ n.clocks n.clocks c d a b (λ q. e (omega arith));
        locations = λ c d a b e. apart n.differ n.locations n.locations c d a b (λ q. e (omega arith));
        channel_clock = λ c d a b.
            apart n.differ n.channels n.clocks c d a b (λ q. omega (arith, n.channels.few));
        channel_location = λ c l a b.
            apart n.differ n.channels n.locations c l a b (λ q. omega (arith, n.channels.few));
        clock_location = λ c l a b.
            apart n.differ n.clocks n.locations c l a b (λ q. omega (arith, n.clocks.few));
      };
    }

answered : (s : List ℕ) (r : Result State Fault) → IfOk r (Good 1 s) → IfOk (answer r) (Promised s)
answered s (Ok r) g = promised s r.names r.text g
answered s (Err f) g = tt

-- what holds of the record of a text that is accepted
pub of_accepted :
    (P : Text → Type 0) (r : Result Text Refusal) → IfOk r P → answer_of r ≡ Ok tt → P (record_of r)
of_accepted P (Ok t) h e = h
of_accepted P (Err f) h e = no e
  where
    no : ◌≡◌ {A = Result ⊤ Refusal} (Err f) (Ok tt) → P (record_of (Err f))
    no q = cc

module _ (period : ℕ) where
  keeps_promise : (s : List ℕ) → IfOk (read_text period s) (Promised s)
  unfolding read_text
  keeps_promise s =
      split P (tick_allowed period)
      (λ _. split P (ltb largest_text (length s))
      (λ _. tt)
      (λ _. answered s (read_whole period s) (whole_good period s)))
      (λ _. tt)
    where
      P : Result Text Refusal → Type 0
      P r = IfOk r (Promised s)

  accepted : (s : List ℕ) → answer_of (read_text period s) ≡ Ok tt → Promised s (record_of (read_text period s))
  accepted s = of_accepted (Promised s) (read_text period s) (keeps_promise s)

  pub read_formed : (s : List ℕ) → answer_of (read_text period s) ≡ Ok tt → WellFormed (record_of (read_text period s))
  read_formed s e = (accepted s e).formed

  pub read_names : (s : List ℕ) → answer_of (read_text period s) ≡ Ok tt → NamesWithin s (record_of (read_text period s))
  read_names s e = (accepted s e).within

  pub read_differ : (s : List ℕ) → answer_of (read_text period s) ≡ Ok tt → NamesDiffer s (record_of (read_text period s))
  read_differ s e = (accepted s e).differ
