-- What holds before anything is read.
use Rattle.std.specs.Prelude.{◌≡◌, refl, List, ℕ, ◌+◌, ◌<◌, replicate}
use Rattle.std.proofs.Common.{arith}
use Rattle.reader_parts.specs.Slots.{first_channel, first_clock, first_location, name_slots}
use Rattle.reader_record.specs.declared.Name.{Name}
use Rattle.reader_record.specs.declared.Channel.{Channel}
use Rattle.reader_record.specs.Record.{no_name, no_channel}
use Rattle.reader_lists.specs.State.{no_text}
use Rattle.reader.specs.Reading.{start}
use Rattle.reader_formed.proofs.Cases.{blank}
use Rattle.reader_formed.proofs.Slots.{Kind, Differ}
use Rattle.reader_formed.proofs.Lists.{Good}
use Rattle.limits.specs.Limits.{channel_limit, clock_limit, location_limit}

empty_kind : (s : List ℕ) (n first limit : ℕ) (named : ℕ → Name) → Kind s (replicate n no_name) first limit 0 named
empty_kind s n first limit named = record {
  few = omega arith;
  filled = λ i h. absurd (omega arith);
  empty = λ i l h. rw (blank n (first + i) no_name);
  within = λ i h. absurd (omega arith);
}

none_differ : (s : List ℕ) (n : ℕ) → Differ s (replicate n no_name)
unfolding Differ
none_differ s n i j d h = absurd (none (rw (blank n i no_name) at h))
  where
    none : 0 < 0 → ⊥
    none z = omega arith

ap_direction : {c d : Channel} → c ≡ d → c.direction ≡ d.direction
ap_direction e = rw e

pub start_good : (s : List ℕ) → Good 0 s start
unfolding start no_text
start_good s = record {
  named = record {
    size = refl;
    differ = none_differ s name_slots;
    channels = empty_kind s name_slots first_channel channel_limit _;
    clocks = empty_kind s name_slots first_clock clock_limit _;
    locations = empty_kind s name_slots first_location location_limit _;
  };
  read = record {
    channels = refl;
    clocks = refl;
    locations = refl;
    edges = refl;
    few = omega arith;
    init = omega arith;
    invariant = λ l h. absurd (omega arith);
    edge = λ i h. absurd (omega arith);
    used = λ c h. absurd (h (ap_direction (blank channel_limit c no_channel)));
  };
}
