-- How far a written text is read: the names that are declared, and what the record holds.
use Rattle.std.specs.Prelude.{◌≡◌, Bool, true, List, [], ℕ, suc, ◌+◌, ◌≤◌, ◌<◌, get_or, set}
use Rattle.std.proofs.Math.Path.{refl}
use Rattle.std.proofs.Common.{◌∙◌}
use Rattle.std.proofs.Math.Bool.{false}
use native.Mathlib.Omega.{arith}
use borrow.Author.Tests.{lt-ltb, le-ltb}
use Rattle.reader_tokens.specs.Scan.{is_letter}
use Rattle.limits.specs.Limits.{channel_limit, clock_limit, location_limit}
use Rattle.reader_record.specs.declared.Name.{Name}
use Rattle.reader_record.specs.declared.Text.{Text}
use Rattle.reader_parts.specs.Slots.{process_slot, process_limit, first_channel, first_clock, first_location, name_slots}
use Rattle.reader_parts.specs.Names.{slot_of}
use Rattle.written.specs.Written.{process_called, clock_called, location_called}
use Rattle.written.proofs.Good.{IsName, GoodNames}
use Rattle.written.proofs.Same.{Spells}
use Rattle.written.proofs.Names.{name_some, called_name}
use Rattle.written.proofs.Slots.{NameTable, table_added, no_slot, in_slot}
use Rattle.written.proofs.Constraints.{KindKnown}
use Rattle.written.proofs.Declared.{slot_name, filled, distinct, slot_process, slot_channel, slot_clock, slot_location, filled_process, filled_channel, filled_clock, filled_location, process_others, channel_others, clock_others, location_others}

-- the text that is read, and that its names and counts are good
pub record GoodText (words : List (List ℕ)) (u : ℕ) (t : Text) : Type 0 where
  pub channels : t.channel_count ≤ channel_limit
  pub clocks : t.clock_count ≤ clock_limit
  pub locations : t.location_count ≤ location_limit
  pub underscores : u ≤ channel_limit
  pub names : GoodNames words u t.channel_count t.clock_count t.location_count

-- the process, if p, and so many channels, clocks and locations are declared
pub record DeclaredNames (s : List ℕ) (words : List (List ℕ)) (u : ℕ) (t : Text) (p : Bool) (c k l : ℕ)
    (names : List Name) : Type 0
  where
    pub table : NameTable s (slot_name words u t.channel_count t.clock_count t.location_count)
        (filled p c k l) names

module _ {s : List ℕ} {words : List (List ℕ)} {u : ℕ} {t : Text} (good : GoodText words u t) {p : Bool} {c k l : ℕ}
    {names : List Name} (d : DeclaredNames s words u t p c k l names) where
  -- a name is found in its slot, or in none
  slot_taken : (j : ℕ) (w : List ℕ)
      → slot_name words u t.channel_count t.clock_count t.location_count j ≡ w
      → IsName w → j < name_slots → filled p c k l j ≡ true → (n : Name) → Spells s n w → slot_of s names n ≡ j
  slot_taken j w e m h f n y =
      in_slot d.table (distinct words u _ _ _ good.names) (rw e (name_some w m)) (rw e y) h f

  slot_free : (j : ℕ) (w : List ℕ)
      → slot_name words u t.channel_count t.clock_count t.location_count j ≡ w
      → IsName w → filled p c k l j ≡ false → (n : Name) → Spells s n w → slot_of s names n ≡ name_slots
  slot_free j w e m f n y =
      no_slot d.table (distinct words u _ _ _ good.names) (rw e (name_some w m)) (rw e y) f

  pub channels_found : c ≤ t.channel_count → KindKnown s names first_channel c (λ i. get_or words i [])
  channels_found h = record {
    name = λ i b. good.names.own.name i (omega arith);
    slot = λ i b. slot_taken (first_channel + i) (get_or words i [])
        (slot_channel words u _ _ _ i (omega arith) (omega (arith, good.channels)))
        (good.names.own.name i (omega arith))
        (omega (arith, good.channels)) (filled_channel p c k l i (omega (arith, good.channels)) ∙ lt-ltb i c b);
  }

  pub clocks_found : k ≤ t.clock_count → KindKnown s names first_clock k (clock_called u)
  unfolding is_letter
  clocks_found h = record {
    name = λ i b. called_name "c" refl u i good.underscores (omega (arith, good.clocks));
    slot = λ i b. slot_taken (first_clock + i) (clock_called u i)
        (slot_clock words u _ _ _ i (omega arith) (omega (arith, good.clocks)))
        (called_name "c" refl u i good.underscores (omega (arith, good.clocks)))
        (omega (arith, good.clocks)) (filled_clock p c k l i (omega (arith, good.clocks)) ∙ lt-ltb i k b);
  }

  pub locations_found : l ≤ t.location_count → KindKnown s names first_location l (location_called u)
  unfolding is_letter
  locations_found h = record {
    name = λ i b. called_name "l" refl u i good.underscores (omega (arith, good.locations));
    slot = λ i b. slot_taken (first_location + i) (location_called u i) (slot_location words u _ _ _ i (omega arith))
        (called_name "l" refl u i good.underscores (omega (arith, good.locations)))
        (omega (arith, good.locations)) (filled_location p c k l i ∙ lt-ltb i l b);
  }

  pub process_found : p ≡ true → KindKnown s names process_slot process_limit (λ i. process_called u)
  unfolding is_letter
  process_found e = record {
    name = λ i b. called_name "p" refl u 0 good.underscores (omega arith);
    slot = λ i b n y. let z : process_slot ≡ process_slot + i = omega arith in
        slot_taken 0 (process_called u) (slot_process words u _ _ _)
        (called_name "p" refl u 0 good.underscores (omega arith))
        (omega arith) (filled_process p c k l ∙ e) n y ∙ z;
  }

  -- the next name of each kind is in no slot yet, and then in its own
  pub channel_fresh : c < t.channel_count → (n : Name) → Spells s n (get_or words c [])
      → slot_of s names n ≡ name_slots
  channel_fresh h = slot_free (first_channel + c) (get_or words c [])
      (slot_channel words u _ _ _ c h (omega (arith, good.channels))) (good.names.own.name c h)
      (filled_channel p c k l c (omega (arith, good.channels)) ∙ le-ltb c c (omega arith))

  pub channel_added : c < t.channel_count → (n : Name) → Spells s n (get_or words c [])
      → DeclaredNames s words u t p (suc c) k l (set names (first_channel + c) n)
  channel_added h n y = record {
    table = table_added d.table (filled p (suc c) k l) (first_channel + c) n (omega (arith, good.channels))
        (rw (slot_channel words u t.channel_count t.clock_count t.location_count c h
        (omega (arith, good.channels))) y)
        (filled_channel p (suc c) k l c (omega (arith, good.channels)) ∙ lt-ltb c (suc c) (omega arith))
        (channel_others p c k l);
  }

  pub clock_fresh : k < t.clock_count → (n : Name) → Spells s n (clock_called u k) → slot_of s names n ≡ name_slots
  unfolding is_letter
  clock_fresh h = slot_free (first_clock + k) (clock_called u k)
      (slot_clock words u _ _ _ k h (omega (arith, good.clocks)))
      (called_name "c" refl u k good.underscores (omega (arith, good.clocks)))
      (filled_clock p c k l k (omega (arith, good.clocks)) ∙ le-ltb k k (omega arith))

  pub clock_added : k < t.clock_count → (n : Name) → Spells s n (clock_called u k)
      → DeclaredNames s words u t p c (suc k) l (set names (first_clock + k) n)
  clock_added h n y = record {
    table = table_added d.table (filled p c (suc k) l) (first_clock + k) n (omega (arith, good.clocks))
        (rw (slot_clock words u t.channel_count t.clock_count t.location_count k h
        (omega (arith, good.clocks))) y)
        (filled_clock p c (suc k) l k (omega (arith, good.clocks)) ∙ lt-ltb k (suc k) (omega arith))
        (clock_others p c k l);
  }

  pub location_fresh : l < t.location_count → (n : Name) → Spells s n (location_called u l)
      → slot_of s names n ≡ name_slots
  unfolding is_letter
  location_fresh h = slot_free (first_location + l) (location_called u l)
      (slot_location words u _ _ _ l h)
      (called_name "l" refl u l good.underscores (omega (arith, good.locations)))
      (filled_location p c k l l ∙ le-ltb l l (omega arith))

  pub location_added : l < t.location_count → (n : Name) → Spells s n (location_called u l)
      → DeclaredNames s words u t p c k (suc l) (set names (first_location + l) n)
  location_added h n y = record {
    table = table_added d.table (filled p c k (suc l)) (first_location + l) n (omega (arith, good.locations))
        (rw (slot_location words u t.channel_count t.clock_count t.location_count l h) y)
        (filled_location p c k (suc l) l ∙ lt-ltb l (suc l) (omega arith))
        (location_others p c k l);
  }

module _ {s : List ℕ} {words : List (List ℕ)} {u : ℕ} {t : Text} (good : GoodText words u t) {c k l : ℕ}
    {names : List Name} (d : DeclaredNames s words u t false c k l names) where
  pub process_fresh : (n : Name) → Spells s n (process_called u) → slot_of s names n ≡ name_slots
  unfolding is_letter
  process_fresh = slot_free good d 0 (process_called u) (slot_process words u _ _ _)
      (called_name "p" refl u 0 good.underscores (omega arith)) (filled_process false c k l)

  pub process_added : (n : Name) → Spells s n (process_called u) → DeclaredNames s words u t true c k l (set names 0 n)
  process_added n y = record {
    table = table_added d.table (filled true c k l) 0 n (omega arith)
        (rw (slot_process words u t.channel_count t.clock_count t.location_count) y)
        (filled_process true c k l) (process_others c k l);
  }
