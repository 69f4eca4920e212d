-- The safe-state operation on the texts' bytes.
use Rattle.std.specs.Prelude.{◌≡◌, Bool, true, false, List, ℕ, ◌≤◌, ltb, length, Result, Ok}
use Rattle.std.proofs.Common.{sym, ap, subst, ◌∙◌, le-ltb}
use Rattle.reader_record.specs.declared.Text.{Text}
use Rattle.reader_examples.specs.Texts.{post, strict, hush, twice, woken}
use Rattle.reader_examples.specs.Records.{post_record, strict_record, hush_record, twice_record, woken_record}
use Rattle.systems.specs.Tests.{at, ones}
use Rattle.clocks.specs.States.{state_count, start_state}
use Rattle.clocks.specs.Safe.{safe_states}
use Rattle.clocks.proofs.Encoded.{safe_states_same}
use Rattle.clocks.specs.Accepted.{Accepted}
use Rattle.bitmaps.specs.Packed.{bytes_for}
use Rattle.clocks_read.specs.declared.Reading.{Reading}
use Rattle.refusals.specs.declared.Refusal.{Refusal}
use Rattle.refusals.specs.Answers.{answer_of}
use Rattle.clocks_read.specs.Reading.{text_in}
use Rattle.clocks_read.specs.Laws.{read_accepted}
use Rattle.safe_states.specs.declared.SafeStates.{SafeStates}
use Rattle.safe_states.specs.Outcome.{Outcome, found_outcome, kept_outcome, answered, safe_outcome}
use Rattle.guarantees_starred.proofs.Posts.{Known, post_keep, post_known, strict_keep, strict_known, hush_keep, hush_known, twice_known, woken_known}
use Rattle.limits.specs.Limits.{shortest_tick}

-- how many states are safe, and whether the start is
abbrev counted : ℕ → Bool → Result SafeStates Refusal
counted count start = Ok (record { count = count; start = start })

-- a text that reads to the record t, whose safe states are K
safe_found : (s : List ℕ) (t : Text) (n : ℕ) (K : List Bool) → Known s t n K → (keep : List ℕ)
    → bytes_for n ≤ length keep → (safe_outcome shortest_tick s keep).answer ≡ counted (ones K) (at K 0)
unfolding safe_outcome answered kept_outcome found_outcome
safe_found s t n K x keep h =
    let e = x.read in
    let a : Accepted t = subst Accepted (ap text_in e)
    (read_accepted shortest_tick s (ap answer_of e)).accepted in
    let k : safe_states t ≡ K = safe_states_same t a ∙ x.safe a in
    let l : ltb (length keep) (bytes_for (state_count t)) ≡ false = le-ltb (length keep) (bytes_for (state_count t))
    (subst (λ (i : ℕ). bytes_for i ≤ length keep) (sym x.size) h) in
    ap (λ (o : Result Reading Refusal). (answered o keep).answer) e
    ∙ ap (λ (o : Outcome). o.answer) (long t keep l)
    ∙ ap (λ (X : List Bool). counted (ones X) (at X (start_state t))) k
    ∙ ap (λ (i : ℕ). counted (ones K) (at K i)) x.start
  where
    long : (t : Text) (keep : List ℕ) → ltb (length keep) (bytes_for (state_count t)) ≡ false → kept_outcome t keep
        ≡ found_outcome t keep
    long t keep l = rw (l, kept_outcome)

-- the safe states of Post, of Strict, of Hush, of Twice and of Woken (SPECIFICATION 16.2, 16.3, 16.10, 16.11)
pub post_counted : (keep : List ℕ) → 2 ≤ length keep → (safe_outcome shortest_tick post keep).answer ≡ counted 9 true
unfolding ones
post_counted = safe_found post post_record 10 post_keep post_known

pub strict_counted : (keep : List ℕ) → 2 ≤ length keep → (safe_outcome shortest_tick strict keep).answer ≡ counted 10 true
unfolding ones
strict_counted = safe_found strict strict_record 12 strict_keep strict_known

pub hush_counted : (keep : List ℕ) → 2 ≤ length keep → (safe_outcome shortest_tick hush keep).answer ≡ counted 5 false
unfolding ones
hush_counted = safe_found hush hush_record 10 hush_keep hush_known

pub twice_counted : (keep : List ℕ) → 2 ≤ length keep → (safe_outcome shortest_tick twice keep).answer ≡ counted 9 true
unfolding ones
twice_counted = safe_found twice twice_record 10 post_keep twice_known

pub woken_counted : (keep : List ℕ) → 2 ≤ length keep → (safe_outcome shortest_tick woken keep).answer ≡ counted 9 true
unfolding ones
woken_counted = safe_found woken woken_record 10 post_keep woken_known
