-- A record and the very bytes that are written for it: a channel is called `l0`, so one underscore stands before names.
use Rattle.std.specs.Prelude.{◌≡◌, refl, true, List, [], ◌∷◌, ◌++◌, ℕ, zero, suc, ◌≤◌, ◌<◌, T, get_or}
use Rattle.std.proofs.Common.{ap, arith}
use Rattle.reader_tokens.specs.Scan.{bytes, is_letter, is_digit, is_part, run, agree, same}
use Rattle.reader_tokens.specs.Tokens.{words, word_from, word_kind}
use Rattle.limits.specs.Limits.{shortest_tick, largest_constant}
use Rattle.reader_record.specs.Record.{no_name, no_constraint, no_assignment, channel, comparison, assignment, edge, invariant_of}
use Rattle.reader_record.specs.Formed.{in_invariant, FormedConstraint}
use Rattle.reader_record.specs.declared.Direction.TheVariants as direction
use Rattle.reader_record.specs.declared.Sign.TheVariants.{AtMost, AtLeast, Equal}
use Rattle.reader_record.specs.declared.Label.TheVariants.{Input, Output}
use Rattle.reader_record.specs.declared.Text.{Text}
use Rattle.systems.specs.Tests.{any, least}
use Rattle.byte_slices.specs.Decimal.{digit, digits, decimal}
use Rattle.written.specs.Spaced.{after_token, spaced_tokens, later_items, part_tokens, numbered_items}
use Rattle.written.specs.Written.{called, sign_bytes, comparison_tokens, constraint_tokens, location_tokens, mark_bytes, label_tokens, assigned_clocks, assignment_tokens, assignments_tokens, edge_tokens, list_tokens, channel_list, clock_list, location_list, edge_list, text_tokens, written_with}
use Rattle.reader.specs.Reading.{read_text}
use Rattle.written.proofs.Good.{IsName, ChannelNames, AllowedValues, Readable}
use Rattle.written.proofs.Same.{is_input_label, ReadBack}
use Rattle.written.proofs.Whole.{written_text_read}
use Rattle.written.specs.Underscores.{is_channel_name, clashes, underscores, underscores_of, written_text}

unfoldable pub example : Text
example = record {
  channels =
      record { name = no_name; direction = direction.Input }
      ∷ record { name = no_name; direction = direction.Output }
      ∷ [];
  channel_count = 2;
  clocks = no_name ∷ no_name ∷ [];
  clock_count = 2;
  locations =
      record {
        name = no_name;
        invariant = record { comparisons = record { clock = 0; sign = AtMost; bound = 15 } ∷ []; count = 1 };
      }
      ∷ record { name = no_name; invariant = no_constraint }
      ∷ [];
  location_count = 2;
  init = 0;
  edges =
      record {
        source = 0;
        target = 1;
        guard = record {
          comparisons =
              record { clock = 0; sign = AtLeast; bound = 2 } ∷ record { clock = 1; sign = Equal; bound = 0 } ∷ [];
          count = 2;
        };
        label = Input 1;
        assignments =
            record { made = true; value = 0; largest = 9 } ∷ record { made = true; value = 7; largest = 7 } ∷ [];
      }
      ∷ record {
        source = 1;
        target = 0;
        guard = no_constraint;
        label = Output 2;
        assignments = no_assignment ∷ no_assignment ∷ [];
      }
      ∷ [];
  edge_count = 2;
}

-- the names of its channels
abbrev pub example_channels : List (List ℕ)
example_channels = bytes "go" ∷ bytes "l0" ∷ []

pub example_written : written_text example_channels example
    ≡ bytes "broadcast chan go , l0 ; process _p0 ( ) { clock _c0 , _c1 ; state _l0 { _c0 <= 15 } , _l1 ; init _l0 ; "
    ++ (bytes "trans _l0 -> _l1 { guard _c0 >= 2 && _c1 == 0 ; sync go ? ; assign _c0 = 0 , _c1 = 7 ; } , "
    ++ bytes "_l1 -> _l0 { sync l0 ! ; } ; } system _p0 ;\n")
unfolding example channel agree same any least digit digits decimal after_token spaced_tokens later_items part_tokens
    numbered_items called sign_bytes comparison_tokens constraint_tokens location_tokens mark_bytes label_tokens
    assigned_clocks assignment_tokens assignments_tokens edge_tokens list_tokens channel_list clock_list location_list
    edge_list text_tokens written_with is_channel_name clashes underscores underscores_of written_text
example_written = refl

-- one or two items
one : (P : ℕ → Type 0) → P 0 → (i : ℕ) → i < 1 → P i
one P a zero h = a
one P a (suc i) h = absurd (omega arith)

two : (P : ℕ → Type 0) → P 0 → P 1 → (i : ℕ) → i < 2 → P i
two P a b zero h = a
two P a b (suc zero) h = b
two P a b (suc (suc i)) h = absurd (omega arith)

none : (P : ℕ → Type 0) → (i : ℕ) → i < 0 → P i
none P i h = absurd (omega arith)

formed_invariant : (l : ℕ) → l < 2 → FormedConstraint 2 (invariant_of example l)
unfolding example
formed_invariant = two (λ l. FormedConstraint 2 (invariant_of example l))
    (record {
      few = omega arith;
      clock = one (λ i. (comparison (invariant_of example 0) i).clock < 2) (omega arith);
      bound = one (λ i. (comparison (invariant_of example 0) i).bound ≤ largest_constant) (omega arith);
    })
    (record {
      few = omega arith;
      clock = none (λ i. (comparison (invariant_of example 1) i).clock < 2);
      bound = none (λ i. (comparison (invariant_of example 1) i).bound ≤ largest_constant);
    })

formed_guard : (i : ℕ) → i < 2 → FormedConstraint 2 (edge example i).guard
unfolding example
formed_guard = two (λ i. FormedConstraint 2 (edge example i).guard)
    (record {
      few = omega arith;
      clock = two (λ i. (comparison (edge example 0).guard i).clock < 2) (omega arith) (omega arith);
      bound = two (λ i. (comparison (edge example 0).guard i).bound ≤ largest_constant) (omega arith) (omega arith);
    })
    (record {
      few = omega arith;
      clock = none (λ i. (comparison (edge example 1).guard i).clock < 2);
      bound = none (λ i. (comparison (edge example 1).guard i).bound ≤ largest_constant);
    })

formed_values : (i : ℕ) → i < 2 → AllowedValues 2 (edge example i).assignments
unfolding example
formed_values = two (λ i. AllowedValues 2 (edge example i).assignments)
    (two (λ k. (assignment (edge example 0) k).value ≤ largest_constant) (omega arith) (omega arith))
    (two (λ k. (assignment (edge example 1) k).value ≤ largest_constant) (omega arith) (omega arith))

formed_sign :
    (l i : ℕ) → l < 2 → i < (invariant_of example l).count
    → T (in_invariant (comparison (invariant_of example l) i).sign (comparison (invariant_of example l) i).bound)
unfolding example in_invariant
formed_sign zero zero h k = tt
formed_sign zero (suc i) h k = absurd (omega arith)
formed_sign (suc zero) i h k = absurd (omega arith)
formed_sign (suc (suc l)) i h k = absurd (omega arith)

pub example_readable : Readable example
unfolding example channel is_input_label
example_readable = record {
  channels = omega arith;
  clocks = omega arith;
  locations = omega arith;
  edges = omega arith;
  init = omega arith;
  invariant = formed_invariant;
  upper = formed_sign;
  guard = formed_guard;
  source = two (λ i. (edge example i).source < 2) (omega arith) (omega arith);
  target = two (λ i. (edge example i).target < 2) (omega arith) (omega arith);
  label = two (λ i. (0 < channel (edge example i).label) × (channel (edge example i).label ≤ 2))
      (omega arith, omega arith) (omega arith, omega arith);
  assigned = formed_values;
  one_mark = one_mark;
}
  where
    one_mark :
        (i j : ℕ) → i < 2 → j < 2 → channel (edge example i).label ≡ channel (edge example j).label
        → is_input_label (edge example i).label ≡ is_input_label (edge example j).label
    one_mark zero zero h k e = refl
    one_mark zero (suc zero) h k e = absurd (omega arith)
    one_mark (suc zero) zero h k e = absurd (omega arith)
    one_mark (suc zero) (suc zero) h k e = refl
    one_mark (suc (suc i)) j h k e = absurd (omega arith)
    one_mark zero (suc (suc j)) h k e = absurd (omega arith)
    one_mark (suc zero) (suc (suc j)) h k e = absurd (omega arith)

pub example_names : ChannelNames example_channels 2
unfolding is_letter is_digit is_part run word_kind words word_from same agree
example_names = record {
  name = two (λ i. IsName (get_or example_channels i []))
      (record { letter = refl; parts = refl; no_word = refl; few = omega arith })
      (record { letter = refl; parts = refl; no_word = refl; few = omega arith });
  differ = differ;
}
  where
    differ : (i j : ℕ) → i < 2 → j < 2 → get_or example_channels i [] ≡ get_or example_channels j [] → i ≡ j
    differ zero zero h k e = refl
    differ zero (suc zero) h k e = absurd (omega (arith, ap (λ l. get_or l 0 0) e))
    differ (suc zero) zero h k e = absurd (omega (arith, ap (λ l. get_or l 0 0) e))
    differ (suc zero) (suc zero) h k e = refl
    differ (suc (suc i)) j h k e = absurd (omega arith)
    differ zero (suc (suc j)) h k e = absurd (omega arith)
    differ (suc zero) (suc (suc j)) h k e = absurd (omega arith)

-- it is read back
pub example_read : ReadBack (written_text example_channels example) example_channels
    (underscores_of example_channels example) example
    (read_text shortest_tick (written_text example_channels example))
unfolding example
example_read =
    written_text_read example_channels example example_readable example_names (rw example_written (omega arith))
