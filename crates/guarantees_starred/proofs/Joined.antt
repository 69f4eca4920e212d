-- Post and Idle joined (SPECIFICATION 18.10), and Twice with itself (SPECIFICATION 16.10), from their bytes to the bytes in
-- the slice.
use Rattle.std.specs.Prelude.{◌≡◌, Bool, List, ◌++◌, ℕ, ◌≤◌, ◌<◌, T, length, take, drop, Result, Ok, Err}
use Rattle.std.proofs.Common.{sym, ap, subst, ◌∙◌, arith}
use Rattle.limits.specs.Limits.{shortest_tick, largest_text, state_limit}
use Rattle.refusals.specs.declared.Refusal.{Refusal}
use Rattle.refusals.specs.Refusals.{out_too_short}
use Rattle.reader_record.specs.declared.Text.{Text}
use Rattle.reader_examples.specs.Texts.{post, overridden, idle, twice}
use Rattle.clocks.specs.States.{state_count}
use Rattle.clocks_read.specs.Reading.{text_in}
use Rattle.pairing.specs.Channels.{unmatched, right_step}
use Rattle.two_texts.specs.Two.{text_of}
use Rattle.joined.specs.Joined.{joined_text, counts_fit}
use Rattle.joined.proofs.Formed.{fits_means}
use Rattle.written.specs.Underscores.{written_text}
use Rattle.written_names.specs.Spelled.{channel_spellings}
use Rattle.joined.proofs.Examples.{post_overridden_states}
use Rattle.joined_written.specs.Example.{post_idle_text, post_idle_written, post_idle_fits, post_idle_states, post_overridden_text, post_overridden_written, post_overridden_fits, twice_twice_text, twice_twice_written, twice_twice_fits, twice_twice_states}
use Rattle.joining.specs.Outcome.{Outcome, joined_record, joined_bytes, join_outcome}
use Rattle.guarantees.specs.Texts.{AcceptedText}
use Rattle.guarantees.specs.Joining.{Within, Joins, Joinable}
use Rattle.guarantees.proofs.Setting.{nothing_found}
use Rattle.guarantees.proofs.Guarantees.{joining_exactly}
use Rattle.guarantees_starred.proofs.Posts.{Known, post_known, overridden_known, idle_known, twice_known}
use Rattle.guarantees_starred.proofs.Runs.{post_idle_equal, post_overridden_equal, twice_twice_equal}
use Rattle.guarantees_starred.proofs.Outcomes.{left_accepted, right_accepted, channels_equal}

both : (o : Outcome) (a : Result ℕ Refusal) (z : List ℕ) → o.answer ≡ a → o.out ≡ z → o ≡ record { answer = a; out = z }
both o a z p q = rw (p, q)

-- the texts s and u, known by their records l and r, which joined are written as z, within the limits
module _ {s u : List ℕ} {l r : Text} {n m : ℕ} {K J : List Bool} (x : Known s l n K) (y : Known u r m J)
    (e : unmatched s l u r ≡ Ok tt) (z : List ℕ)
    (written : written_text (channel_spellings s l) (joined_text (right_step s l u r) l r) ≡ z)
    (fits : T (counts_fit (joined_text (right_step s l u r) l r)))
    (few : state_count (joined_text (right_step s l u r) l r) ≤ state_limit) (short : length z ≤ largest_text) where
  -- what depends on the records of the two texts alone
  by_records : (P : Text → Text → Type 0) → P l r → P (text_of shortest_tick s) (text_of shortest_tick u)
  by_records P h = subst (λ (t : Text). P t (text_of shortest_tick u)) (sym (ap text_in x.read))
      (subst (P l) (sym (ap text_in y.read)) h)

  -- the text that is written
  pub bytes_are : joined_bytes shortest_tick s u ≡ z
  bytes_are = by_records (λ l r. written_text (channel_spellings s l) (joined_text (right_step s l u r) l r) ≡ z) written

  within : Within (joined_record shortest_tick s u) (joined_bytes shortest_tick s u)
  within = by_records
      (λ l r. Within (joined_text (right_step s l u r) l r)
      (written_text (channel_spellings s l) (joined_text (right_step s l u r) l r)))
      (record {
        counts = fits_means (joined_text (right_step s l u r) l r) fits;
        states = few;
        bytes = rw written short;
      })

  -- the hypotheses of SPECIFICATION 17.10 can be met
  pub joinable : Joinable shortest_tick s u
  joinable = record {
    judged = nothing_found shortest_tick s u (left_accepted x y e) (right_accepted x y e) (channels_equal x y e);
    within = within;
  }

  answered : (out : List ℕ) → length z ≤ length out → (join_outcome shortest_tick s u out).answer ≡ Ok (length z)
  answered out h = ((joining_exactly shortest_tick s u out).long (length z)).1 (joinable, ap length (sym bytes_are), h)

  pub written_out : (out : List ℕ) → length z ≤ length out
      → join_outcome shortest_tick s u out
      ≡ record { answer = Ok (length z); out = z ++ drop (length z) out }
  written_out out h =
      let a = answered out h in
      both (join_outcome shortest_tick s u out) (Ok (length z)) (z ++ drop (length z) out) a
      ((joining_exactly shortest_tick s u out).text (length z) a
      ∙ ap (λ (w : List ℕ). w ++ drop (length z) out) bytes_are)

  -- what is written joins the two: it is accepted with tick length 1 and means both (SPECIFICATION 17.10)
  pub written_joins : (out : List ℕ) → length z ≤ length out
      → (a : AcceptedText shortest_tick s) × (b : AcceptedText shortest_tick u)
      × Joins shortest_tick s u a b (take (length z) (join_outcome shortest_tick s u out).out)
  written_joins out h = (joining_exactly shortest_tick s u out).joins (length z) (answered out h)

  pub too_short : (out : List ℕ) → length out < length z
      → join_outcome shortest_tick s u out ≡ record { answer = Err (out_too_short (length z)); out = out }
  too_short out h =
      let d = joining_exactly shortest_tick s u out in
      both (join_outcome shortest_tick s u out) (Err (out_too_short (length z))) out
      ((d.short (length z)).1 (joinable, ap length (sym bytes_are), h))
      (d.untouched (λ k q. let (j, p, l) = (d.long k).0 q in omega (arith, p, l, ap length bytes_are, h)))

pub post_idle_joinable : Joinable shortest_tick post idle
post_idle_joinable = joinable post_known idle_known post_idle_equal post_idle_text post_idle_written post_idle_fits
    (omega (arith, post_idle_states)) (omega arith)

pub post_idle_written_out : (out : List ℕ) → 386 ≤ length out
    → join_outcome shortest_tick post idle out
    ≡ record { answer = Ok 386; out = post_idle_text ++ drop 386 out }
post_idle_written_out = written_out post_known idle_known post_idle_equal post_idle_text post_idle_written
    post_idle_fits (omega (arith, post_idle_states)) (omega arith)

pub post_idle_too_short : (out : List ℕ) → length out < 386
    → join_outcome shortest_tick post idle out
    ≡ record { answer = Err (out_too_short 386); out = out }
post_idle_too_short = too_short post_known idle_known post_idle_equal post_idle_text post_idle_written post_idle_fits
    (omega (arith, post_idle_states)) (omega arith)

-- Post with a text that assigns 7 and then 1: the last value is written, once (SPECIFICATION 16.11, 18.5)
pub post_overridden_written_out : (out : List ℕ) → 497 ≤ length out
    → join_outcome shortest_tick post overridden out
    ≡ record { answer = Ok 497; out = post_overridden_text ++ drop 497 out }
post_overridden_written_out = written_out post_known overridden_known post_overridden_equal post_overridden_text
    post_overridden_written post_overridden_fits (omega (arith, post_overridden_states)) (omega arith)

pub post_overridden_joins : (out : List ℕ) → 497 ≤ length out
    → (a : AcceptedText shortest_tick post) × (b : AcceptedText shortest_tick overridden)
    × Joins shortest_tick post overridden a b (take 497 (join_outcome shortest_tick post overridden out).out)
post_overridden_joins = written_joins post_known overridden_known post_overridden_equal post_overridden_text
    post_overridden_written post_overridden_fits (omega (arith, post_overridden_states)) (omega arith)

-- Twice with itself: a joined text with parallel edges, written out, accepted and meaning both
pub twice_twice_written_out : (out : List ℕ) → 610 ≤ length out
    → join_outcome shortest_tick twice twice out
    ≡ record { answer = Ok 610; out = twice_twice_text ++ drop 610 out }
twice_twice_written_out = written_out twice_known twice_known twice_twice_equal twice_twice_text twice_twice_written
    twice_twice_fits (omega (arith, twice_twice_states)) (omega arith)

pub twice_twice_joins : (out : List ℕ) → 610 ≤ length out
    → (a : AcceptedText shortest_tick twice) × (b : AcceptedText shortest_tick twice)
    × Joins shortest_tick twice twice a b (take 610 (join_outcome shortest_tick twice twice out).out)
twice_twice_joins = written_joins twice_known twice_known twice_twice_equal twice_twice_text twice_twice_written
    twice_twice_fits (omega (arith, twice_twice_states)) (omega arith)
