-- The words and marks of a text are tokens of their kinds (SPECIFICATION 2.2, 2.3).
use Rattle.std.specs.Prelude.{◌≡◌, refl, ℕ}
use Rattle.reader_tokens.specs.Scan.{bytes, is_space, is_letter, is_digit, is_part, run, agree, same}
use Rattle.reader_tokens.specs.Kinds as kinds
use Rattle.reader_tokens.specs.Tokens.{word_from, word_kind, words, is_pair, is_single, mark_kind, mark_length}
use Rattle.written.proofs.Tokens.{Gap, space, last, Fine}
use Rattle.written.proofs.Scanned.{word_fine, single_mark_fine, pair_mark_fine}

pub broadcast_fine : Fine (bytes "broadcast") kinds.broadcast
unfolding is_letter is_digit is_part is_space run word_kind words word_from same agree
broadcast_fine = word_fine _ _ _ refl refl refl refl

pub chan_fine : Fine (bytes "chan") kinds.chan
unfolding is_letter is_digit is_part is_space run word_kind words word_from same agree
chan_fine = word_fine _ _ _ refl refl refl refl

pub process_fine : Fine (bytes "process") kinds.process
unfolding is_letter is_digit is_part is_space run word_kind words word_from same agree
process_fine = word_fine _ _ _ refl refl refl refl

pub clock_fine : Fine (bytes "clock") kinds.clock
unfolding is_letter is_digit is_part is_space run word_kind words word_from same agree
clock_fine = word_fine _ _ _ refl refl refl refl

pub state_fine : Fine (bytes "state") kinds.state
unfolding is_letter is_digit is_part is_space run word_kind words word_from same agree
state_fine = word_fine _ _ _ refl refl refl refl

pub init_fine : Fine (bytes "init") kinds.init
unfolding is_letter is_digit is_part is_space run word_kind words word_from same agree
init_fine = word_fine _ _ _ refl refl refl refl

pub trans_fine : Fine (bytes "trans") kinds.trans
unfolding is_letter is_digit is_part is_space run word_kind words word_from same agree
trans_fine = word_fine _ _ _ refl refl refl refl

pub system_fine : Fine (bytes "system") kinds.system
unfolding is_letter is_digit is_part is_space run word_kind words word_from same agree
system_fine = word_fine _ _ _ refl refl refl refl

pub guard_fine : Fine (bytes "guard") kinds.guard
unfolding is_letter is_digit is_part is_space run word_kind words word_from same agree
guard_fine = word_fine _ _ _ refl refl refl refl

pub sync_fine : Fine (bytes "sync") kinds.sync
unfolding is_letter is_digit is_part is_space run word_kind words word_from same agree
sync_fine = word_fine _ _ _ refl refl refl refl

pub assign_fine : Fine (bytes "assign") kinds.assign
unfolding is_letter is_digit is_part is_space run word_kind words word_from same agree
assign_fine = word_fine _ _ _ refl refl refl refl

-- a mark of one byte makes no pair with the byte after it
alone : (a : ℕ) → mark_kind a 32 ≡ a → mark_kind a 10 ≡ a → (b : ℕ) → Gap b → mark_kind a b ≡ a
alone a x y _ space = x
alone a x y _ last = y

pub comma_fine : Fine (bytes ",") kinds.comma
unfolding is_letter is_digit is_space mark_kind mark_length is_pair is_single
comma_fine = single_mark_fine _ refl refl refl (alone _ refl refl) refl

pub semicolon_fine : Fine (bytes ";") kinds.semicolon
unfolding is_letter is_digit is_space mark_kind mark_length is_pair is_single
semicolon_fine = single_mark_fine _ refl refl refl (alone _ refl refl) refl

pub opens_fine : Fine (bytes "{") kinds.opens
unfolding is_letter is_digit is_space mark_kind mark_length is_pair is_single
opens_fine = single_mark_fine _ refl refl refl (alone _ refl refl) refl

pub closes_fine : Fine (bytes "}") kinds.closes
unfolding is_letter is_digit is_space mark_kind mark_length is_pair is_single
closes_fine = single_mark_fine _ refl refl refl (alone _ refl refl) refl

pub left_paren_fine : Fine (bytes "(") kinds.left_paren
unfolding is_letter is_digit is_space mark_kind mark_length is_pair is_single
left_paren_fine = single_mark_fine _ refl refl refl (alone _ refl refl) refl

pub right_paren_fine : Fine (bytes ")") kinds.right_paren
unfolding is_letter is_digit is_space mark_kind mark_length is_pair is_single
right_paren_fine = single_mark_fine _ refl refl refl (alone _ refl refl) refl

pub input_fine : Fine (bytes "?") kinds.input
unfolding is_letter is_digit is_space mark_kind mark_length is_pair is_single
input_fine = single_mark_fine _ refl refl refl (alone _ refl refl) refl

pub output_fine : Fine (bytes "!") kinds.output
unfolding is_letter is_digit is_space mark_kind mark_length is_pair is_single
output_fine = single_mark_fine _ refl refl refl (alone _ refl refl) refl

pub becomes_fine : Fine (bytes "=") kinds.becomes
unfolding is_letter is_digit is_space mark_kind mark_length is_pair is_single
becomes_fine = single_mark_fine _ refl refl refl (alone _ refl refl) refl

pub less_fine : Fine (bytes "<") kinds.less
unfolding is_letter is_digit is_space mark_kind mark_length is_pair is_single
less_fine = single_mark_fine _ refl refl refl (alone _ refl refl) refl

pub greater_fine : Fine (bytes ">") kinds.greater
unfolding is_letter is_digit is_space mark_kind mark_length is_pair is_single
greater_fine = single_mark_fine _ refl refl refl (alone _ refl refl) refl

pub arrow_fine : Fine (bytes "->") kinds.arrow
unfolding is_letter is_digit is_space mark_kind mark_length is_pair
arrow_fine = pair_mark_fine _ refl refl refl _ refl

pub at_most_fine : Fine (bytes "<=") kinds.at_most
unfolding is_letter is_digit is_space mark_kind mark_length is_pair
at_most_fine = pair_mark_fine _ refl refl refl _ refl

pub at_least_fine : Fine (bytes ">=") kinds.at_least
unfolding is_letter is_digit is_space mark_kind mark_length is_pair
at_least_fine = pair_mark_fine _ refl refl refl _ refl

pub equal_fine : Fine (bytes "==") kinds.equal
unfolding is_letter is_digit is_space mark_kind mark_length is_pair
equal_fine = pair_mark_fine _ refl refl refl _ refl

pub both_fine : Fine (bytes "&&") kinds.both
unfolding is_letter is_digit is_space mark_kind mark_length is_pair
both_fine = pair_mark_fine _ refl refl refl _ refl
