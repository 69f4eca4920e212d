-- Post and Idle joined (SPECIFICATION 18.10), Post and a text with an overridden assignment (SPECIFICATION 16.11), and
-- Twice with itself (SPECIFICATION 16.10), from their records to the bytes that are written.
use Rattle.std.specs.Prelude.{◌≡◌, refl, true, List, ◌++◌, ℕ, T}
use Rattle.systems.specs.Tests.{any, least}
use Rattle.byte_slices.specs.Decimal.{digit, digits, decimal}
use Rattle.reader_record.specs.declared.Text.{Text}
use Rattle.reader_tokens.specs.Scan.{bytes}
use Rattle.reader_examples.specs.Texts.{post, overridden, idle, twice}
use Rattle.reader_examples.specs.Records.{post_record, overridden_record, idle_record, twice_record}
use Rattle.clocks.specs.declared.Moves.TheVariants.{One}
use Rattle.clocks.specs.Meaning.{moves, start_of}
use Rattle.clocks.specs.States.{state_count}
use Rattle.clocks.specs.Faults.{edge_gives}
use Rattle.pairing.specs.Channels.{right_step}
use Rattle.joined.specs.Joined.{joined_text, counts_fit}
use Rattle.joined.proofs.Examples.{opened}
use Rattle.written.specs.Spaced.{after_token, spaced_tokens, later_items, part_tokens, numbered_items}
use Rattle.written.specs.Written.{called, sign_bytes, comparison_tokens, constraint_tokens, location_tokens, mark_bytes, label_tokens, assigned_clocks, assignment_tokens, assignments_tokens, edge_tokens, list_tokens, channel_list, clock_list, location_list, edge_list, text_tokens, written_with}
use Rattle.written.specs.Underscores.{is_channel_name, clashes, underscores, underscores_of, written_text}
use Rattle.written_names.specs.Spelled.{channel_spellings}

-- the channels of Post and Idle pair up by name
abbrev pub to_idle : ℕ → ℕ
to_idle = right_step post post_record idle idle_record

abbrev pub post_idle : Text
post_idle = joined_text to_idle post_record idle_record

-- the two as one text, one line: `late` is declared and has no edge
abbrev pub post_idle_text : List ℕ
post_idle_text =
    bytes "broadcast chan pass , spike , late ; process p0 ( ) { clock c0 , c1 ; "
    ++ (bytes "state l0 { c0 <= 3 } , l1 { c0 <= 3 } , l2 , l3 ; init l0 ; trans "
    ++ (bytes "l0 -> l3 { sync pass ? ; } , l1 -> l3 { sync pass ? ; } , "
    ++ (bytes "l0 -> l0 { sync spike ? ; } , l1 -> l1 { sync spike ? ; } , "
    ++ (bytes "l2 -> l3 { sync pass ? ; } , l3 -> l3 { sync pass ? ; } , "
    ++ bytes "l2 -> l2 { sync spike ? ; } , l3 -> l3 { sync spike ? ; } ; } system p0 ;\n"))))

-- everything that writing goes through, opened
unfoldable pub opened_writing : Unit {0}
unfolding opened any least digit digits decimal after_token spaced_tokens later_items part_tokens numbered_items
    called sign_bytes comparison_tokens constraint_tokens location_tokens mark_bytes label_tokens assigned_clocks
    assignment_tokens assignments_tokens edge_tokens list_tokens channel_list clock_list location_list edge_list
    text_tokens written_with is_channel_name clashes underscores underscores_of written_text channel_spellings
opened_writing = tt

pub post_idle_written : written_text (channel_spellings post post_record) post_idle ≡ post_idle_text
unfolding opened_writing
post_idle_written = refl

pub post_idle_fits : T (counts_fit post_idle)
unfolding opened
post_idle_fits = tt

pub post_idle_states : state_count post_idle ≡ 40
unfolding opened
post_idle_states = refl

-- Post and the text whose second edge has `x = 7, x = 1` (SPECIFICATION 16.11): the right's clock is assigned once, the
-- last value (SPECIFICATION 18.5)
abbrev pub post_overridden : Text
post_overridden = joined_text (right_step post post_record overridden overridden_record) post_record overridden_record

abbrev pub post_overridden_text : List ℕ
post_overridden_text =
    bytes "broadcast chan pass , spike , late ; process p0 ( ) { clock c0 , c1 ; "
    ++ (bytes "state l0 { c0 <= 3 && c1 <= 3 } , l1 { c0 <= 3 } , l2 { c1 <= 3 } , l3 ; init l0 ; trans "
    ++ (bytes "l0 -> l3 { sync pass ? ; } , l1 -> l3 { sync pass ? ; } , "
    ++ (bytes "l0 -> l0 { sync spike ? ; assign c1 = 1 ; } , l1 -> l1 { sync spike ? ; } , "
    ++ (bytes "l0 -> l3 { guard c0 >= 3 && c1 >= 3 ; sync late ! ; } , "
    ++ (bytes "l2 -> l3 { sync pass ? ; } , l3 -> l3 { sync pass ? ; } , "
    ++ bytes "l2 -> l2 { sync spike ? ; assign c1 = 1 ; } , l3 -> l3 { sync spike ? ; } ; } system p0 ;\n")))))

pub post_overridden_written : written_text (channel_spellings post post_record) post_overridden ≡ post_overridden_text
unfolding opened_writing
post_overridden_written = refl

pub post_overridden_fits : T (counts_fit post_overridden)
unfolding opened
post_overridden_fits = tt

-- Twice with itself: every matching pair of edges is written, so that `pass` has four edges from l0 to l3
abbrev pub twice_twice : Text
twice_twice = joined_text (right_step twice twice_record twice twice_record) twice_record twice_record

abbrev pub twice_twice_text : List ℕ
twice_twice_text =
    bytes "broadcast chan pass , spike , late ; process p0 ( ) { clock c0 , c1 ; "
    ++ (bytes "state l0 { c0 <= 3 && c1 <= 3 } , l1 { c0 <= 3 } , l2 { c1 <= 3 } , l3 ; init l0 ; trans "
    ++ (bytes "l0 -> l3 { sync pass ? ; } , l0 -> l3 { sync pass ? ; } , l1 -> l3 { sync pass ? ; } , "
    ++ (bytes "l0 -> l3 { sync pass ? ; } , l0 -> l3 { sync pass ? ; } , l1 -> l3 { sync pass ? ; } , "
    ++ (bytes "l0 -> l0 { sync spike ? ; } , l1 -> l1 { sync spike ? ; } , "
    ++ (bytes "l0 -> l3 { guard c0 >= 3 && c1 >= 3 ; sync late ! ; } , "
    ++ (bytes "l2 -> l3 { sync pass ? ; } , l2 -> l3 { sync pass ? ; } , l3 -> l3 { sync pass ? ; } , "
    ++ bytes "l2 -> l2 { sync spike ? ; } , l3 -> l3 { sync spike ? ; } ; } system p0 ;\n"))))))

pub twice_twice_written : written_text (channel_spellings twice twice_record) twice_twice ≡ twice_twice_text
unfolding opened_writing
twice_twice_written = refl

pub twice_twice_fits : T (counts_fit twice_twice)
unfolding opened
twice_twice_fits = tt

pub twice_twice_states : state_count twice_twice ≡ 100
unfolding opened
twice_twice_states = refl

-- the four edges that give a move by `pass` at the start, by their numbers, lead to one configuration: they make one move
pub record FourParallel : Type 0 where
  pub gives : (edge_gives twice_twice (start_of twice_twice) 1 0 ≡ true)
      × (edge_gives twice_twice (start_of twice_twice) 1 1 ≡ true)
      × (edge_gives twice_twice (start_of twice_twice) 1 3 ≡ true)
      × (edge_gives twice_twice (start_of twice_twice) 1 4 ≡ true)
  pub one : moves twice_twice (start_of twice_twice) 1 ≡ One (record { location = 3; x = 0; y = 0; z = 0 })

pub four_parallel : FourParallel
unfolding opened edge_gives
four_parallel = record { gives = (refl, refl, refl, refl); one = refl }
