-- What the programs print for the posts: a theorem from the texts' bytes (SPECIFICATION 17.4).
use Rattle.std.specs.Prelude.{◌≡◌, refl, List, [], ◌∷◌, ◌++◌, ℕ, ◌≤◌, length, drop}
use Rattle.std.proofs.Common.{ap, ◌∙◌, arith}
use Rattle.limits.specs.Limits.{keep_limit}
use Rattle.reader_examples.specs.Texts.{post, rearm, hush}
use Rattle.reader_examples.specs.Records.{rearm_record}
use Rattle.systems.specs.Definitions.{tick}
use Rattle.clocks_read.specs.Reading.{text_in}
use Rattle.search.specs.Outcome.{Outcome}
use Rattle.byte_slices.specs.Decimal.{ascii, decimal, digits, digit}
use Rattle.guarantees_starred.specs.Sentences.{Room, widest_raster, ten_by_ten}
use Rattle.guarantees_starred.proofs.Tables.{file_size}
use Rattle.guarantees_starred.proofs.Starred.{starred_posts}
use Rattle.guarantees_starred.proofs.Posts.{rearm_known}
use Rattle.printed_lines.specs.Lines.{spaced, line, refusal_line, yes_line, passed_line, accepted_line, direction_mark, channel_line, step_line, step_lines, departure_lines}
use Rattle.printed.specs.Prints.{zeros, entries, counted_bytes, widest_line, search_lines, megzhoi_prints, table_printed, widest_prints, check_line, recheck_prints, verdict_line, implementation_prints}
use Rattle.printed.specs.Fits.{zeros_length}
use Rattle.printed_examples.specs.Lines.{Lines}

-- the steps of Rearm's departure from Post
abbrev departure : List ℕ
departure = tick ∷ tick ∷ tick ∷ 2 ∷ tick ∷ []

-- the slices that program megzhoi lends are long enough for two posts of 10 states
enough : (n : ℕ) → n ≤ entries → Room 10 10 n (zeros keep_limit) entries entries (zeros entries)
enough n h = record {
  keep_room = omega (arith, zeros_length keep_limit);
  back_room = omega arith;
  line_room = omega arith;
  run_room = omega (arith, h, zeros_length entries);
}

keep_enough : 2 ≤ length (zeros keep_limit)
keep_enough = omega (arith, zeros_length keep_limit)

-- the lines of Rearm's departure, whatever stands behind it in the run
departs : (rest : List ℕ) → departure_lines rearm rearm_record.channels 5 (departure ++ rest)
    ≡ ascii "NO 5\ntick\ntick\ntick\nspike?\ntick\n"
unfolding departure_lines step_lines step_line channel_line direction_mark line spaced decimal digits digit
departs rest = refl

rearm_lines : megzhoi_prints rearm post ≡ ascii "NO 5\ntick\ntick\ntick\nspike?\ntick\n"
unfolding megzhoi_prints search_lines
rearm_lines =
    let (a, r) = starred_posts.rearm_post (zeros keep_limit) entries entries (zeros entries) (enough 5 (omega arith)) in
    rw (a, r)
    (ap (λ o. departure_lines rearm (text_in o).channels 5 (departure ++ drop 5 (zeros entries)))
    rearm_known.read ∙ departs (drop 5 (zeros entries)))

post_lines : megzhoi_prints post post ≡ ascii "YES 29\n"
unfolding megzhoi_prints search_lines widest_line yes_line line spaced decimal digits digit
post_lines =
    let (a, _) = starred_posts.post_post (zeros keep_limit) entries entries (zeros entries) (enough 0 (omega arith)) in
    let (made, _) = starred_posts.post_widest (zeros keep_limit) (zeros counted_bytes) keep_enough
    (omega (arith, zeros_length counted_bytes)) in
    rw a (ap widest_line made)

hush_lines : megzhoi_prints hush post ≡ ascii "REFUSED 17 1 0 0\n"
unfolding megzhoi_prints search_lines refusal_line line spaced decimal digits digit
hush_lines =
    ap (λ (o : Outcome). search_lines hush post o.answer o.run)
    (starred_posts.hush_search (zeros keep_limit) entries entries (zeros entries) (enough 0 (omega arith)))

post_file : (room : ℕ) → 29 ≤ room → widest_prints room post post ≡ ten_by_ten widest_raster
unfolding widest_prints table_printed
post_file room h =
    let (made, table) = starred_posts.post_widest (zeros keep_limit) (zeros room) keep_enough
    (omega (arith, h, zeros_length room)) in
    rw (made, table, starred_posts.post_states, file_size) refl

pub printed_posts : Lines
unfolding recheck_prints check_line implementation_prints verdict_line passed_line accepted_line refusal_line line spaced decimal digits digit
printed_posts = record {
  rearm_departs = rearm_lines;
  post_refines = post_lines;
  hush_refused = hush_lines;
  post_table = post_file;
  diagonal_accepted = ap check_line (starred_posts.diagonal (zeros keep_limit) keep_enough);
  start_refused = ap check_line (starred_posts.start_only (zeros keep_limit) keep_enough);
  post_implementation = ap verdict_line starred_posts.post_passes;
  loose_implementation = ap verdict_line starred_posts.loose_beside;
  hush_implementation = ap verdict_line starred_posts.hush_neither;
}
