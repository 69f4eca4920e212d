-- Joining two texts is as specs/Joining.antt asks.
use Rattle.std.specs.Prelude.{◌≡◌, Bool, true, false, ◌&&◌, cond, List, ◌++◌, ℕ, ◌≤◌, ◌<◌, T, leb, ltb, take, drop, Result, Ok, Err}
use Rattle.std.proofs.Math.Path.{refl, sym, ap, subst}
use Rattle.std.proofs.Common.{◌∙◌, arith, leb→le, le→leb, ltb-true, ltb-false}
use Rattle.std.proofs.Math.Option.{Option, none, some}
use Rattle.std.proofs.Math.ListN.{length}
use Rattle.std.proofs.Math.Seq.{take-append_seam}
use Rattle.limits.specs.Limits.{shortest_tick, largest_text, state_limit}
use Rattle.refusals.specs.declared.Refusal.{Refusal}
use Rattle.refusals.specs.Refusals as numbers
use Rattle.refusals.specs.Refusals.{code, file, limit_exceeded, out_too_short}
use Rattle.refusals.specs.Answers.{answer_of}
use Rattle.systems.specs.Bools.{none_some, and_T, and_both}
use Rattle.reader_record.specs.declared.Text.{Text}
use Rattle.reader.specs.Reading.{record_of, read_text}
use Rattle.clocks.specs.States.{state_count}
use Rattle.clocks.specs.Accepted.{Accepted}
use Rattle.clocks_read.specs.Reading.{judged_reading, parsed_reading, read_outcome}
use Rattle.clocks_read.specs.Laws.{read_accepted}
use Rattle.two_texts.specs.Two.{text_of, two_judged}
use Rattle.two_texts.proofs.Laws.{judged_none, channels_equal, judged_by_none, judged_by_some}
use Rattle.joined.specs.Joined.{counts_fit}
use Rattle.joined.proofs.Formed.{fits_means, fits_test}
use Rattle.joined_written.specs.Joins.{JoinsTexts}
use Rattle.joined_written.specs.Results.{written_joins}
use Rattle.joining.specs.Outcome.{Outcome, refused, within_limits, laid_text, record_outcome, joined_record, joined_bytes, join_outcome}
use Rattle.guarantees.specs.Texts.{AcceptedText}
use Rattle.guarantees.proofs.Allowed.{two_codes}
use Rattle.guarantees.specs.Joining.{Within, Joins, Joinable, JoinDemand}

-- the test of the limits is what Within says
within_test : (t : Text) (z : List ℕ) → Within t z → T (within_limits t z)
unfolding within_limits
within_test t z w =
    and_T (counts_fit t) (leb (state_count t) state_limit && leb (length z) largest_text) (fits_test t w.counts)
    (and_T (leb (state_count t) state_limit) (leb (length z) largest_text)
    (le→leb (state_count t) state_limit w.states) (le→leb (length z) largest_text w.bytes))

test_within : (t : Text) (z : List ℕ) → T (within_limits t z) → Within t z
unfolding within_limits
test_within t z h =
    let (a, more) = and_both (counts_fit t) (leb (state_count t) state_limit && leb (length z) largest_text) h in
    let (b, c) = and_both (leb (state_count t) state_limit) (leb (length z) largest_text) more in
    record {
      counts = fits_means t a;
      states = leb→le (state_count t) state_limit b;
      bytes = leb→le (length z) largest_text c;
    }

-- how joining ends, for a joined record t and its text z: `found` is what codes 24 and 1 to 12 find
data Ends (found : Option Refusal) (t : Text) (z out : List ℕ) : Outcome → Type 0 where
  refuses : (r : Refusal) → found ≡ some r → Ends found t z out (refused r out)
  passes : none ≡ found → (Within t z → ⊥) → Ends found t z out (refused limit_exceeded out)
  lacks : none ≡ found → Within t z → length out < length z
      → Ends found t z out (refused (out_too_short (length z)) out)
  writes : none ≡ found → Within t z → length z ≤ length out
      → Ends found t z out (record { answer = Ok (length z); out = z ++ drop (length z) out })

record_ends : (found : Option Refusal) (t : Text) (z out : List ℕ) → none ≡ found
    → Ends found t z out (record_outcome t z out)
unfolding record_outcome laid_text
record_ends found t z out e = go (within_limits t z) refl (ltb (length out) (length z)) refl
  where
    go : (b : Bool) → within_limits t z ≡ b → (s : Bool) → ltb (length out) (length z) ≡ s
        → Ends found t z out (cond b (cond s (refused (out_too_short (length z)) out)
        (record { answer = Ok (length z); out = z ++ drop (length z) out })) (refused limit_exceeded out))
    go false d s h = passes e (λ w. subst T d (within_test t z w))
    go true d true h = lacks e (test_within t z (subst T (sym d) tt)) (ltb-true (length out) (length z) h)
    go true d false h = writes e (test_within t z (subst T (sym d) tt)) (ltb-false (length out) (length z) h)

module _ (period : ℕ) (left right out : List ℕ) where
  join_ends : Ends (two_judged period left right) (joined_record period left right) (joined_bytes period left right) out
      (join_outcome period left right out)
  unfolding join_outcome
  join_ends = go (two_judged period left right) refl
    where
      go : (o : Option Refusal) → two_judged period left right ≡ o
          → Ends (two_judged period left right) (joined_record period left right) (joined_bytes period left right) out
          (join_outcome period left right out)
      go none e = subst (Ends _ _ _ out) (sym (judged_by_none (two_judged period left right) _ _ (sym e)))
          (record_ends _ (joined_record period left right) (joined_bytes period left right) out (sym e))
      go (some r) e = subst (Ends _ _ _ out) (sym (judged_by_some (two_judged period left right) _ _ r e))
          (refuses r e)

-- a text that is read, and whose record is accepted, is accepted
accepted_by : (r : Result Text Refusal) → answer_of r ≡ Ok tt → Accepted (record_of r)
    → answer_of (parsed_reading r) ≡ Ok tt
unfolding parsed_reading judged_reading
accepted_by (Ok t) e a = rw (a.clean, judged_reading)
accepted_by (Err f) e a = let z : ◌≡◌ {A = ℕ} 0 1 = cc in absurd (omega arith)

accepted_text : (period : ℕ) (s : List ℕ) → answer_of (read_text period s) ≡ Ok tt
    → Accepted (record_of (read_text period s)) → AcceptedText period s
unfolding read_outcome
accepted_text period s = accepted_by (read_text period s)

-- the text that is written joins the two, where it passes no limit
text_joins : (period : ℕ) (left right : List ℕ) → Joinable period left right
    → (a : AcceptedText period left) × (b : AcceptedText period right)
    × Joins period left right a b (joined_bytes period left right)
text_joins period left right j =
    let k = judged_none period left right j.judged in
    let l = read_accepted period left k.left_read in
    let r = read_accepted period right k.right_read in
    let z : List ℕ = joined_bytes period left right in
    let (e, w) = written_joins period left right l.parsed r.parsed (text_of period left) (text_of period right)
    (sym l.same) (sym r.same) l.accepted r.accepted (channels_equal period left right k)
    (fits_test (joined_record period left right) j.within.counts) j.within.states j.within.bytes in
    let c = accepted_text shortest_tick z e w.accepted in
    let x = read_accepted shortest_tick z c in
    let v : JoinsTexts left right z (text_of period left) (text_of period right) (text_of shortest_tick z)
    l.accepted r.accepted = rw x.same w in (
      k.left_read,
      k.right_read,
      record {
        accepted = c;
        with_left = v.left_channels;
        with_right = v.right_channels;
        steps = v.conjunction.steps;
        exactly = v.conjunction.satisfied x.accepted.formed;
      },
    )

-- a refusal is not a length, and one code is not another
never_written : (r : Refusal) (n : ℕ) → ◌≡◌ {A = Result ℕ Refusal} (Err r) (Ok n) → ⊥
never_written r n e = let z : ◌≡◌ {A = ℕ} 0 1 = cc in absurd (omega arith)

same_code : (r s : Refusal) → ◌≡◌ {A = Result ℕ Refusal} (Err r) (Err s) → code r ≡ code s
same_code r s e = let z : r ≡ s = cc in ap code z

module _ (period : ℕ) (left right out : List ℕ) where
  -- codes 24 and 1 to 12 come before 25
  early : (r : Refusal) → two_judged period left right ≡ some r → code r < code limit_exceeded
  early r e = omega (arith, two_codes period left right r e)

  abbrev z : List ℕ
  z = joined_bytes period left right

  by_code : (r : Refusal) → two_judged period left right ≡ some r → JoinDemand period left right out (refused r out)
  unfolding refused
  by_code r e = record {
    limit = (
      λ h. absurd (omega (arith, early r e, same_code r limit_exceeded h)),
      λ (n, w). none_some r (n ∙ e),
    );
    short = λ n. (
      λ h. absurd (omega (arith, early r e, same_code r (out_too_short n) h)),
      λ (j, m, l). none_some r (j.judged ∙ e),
    );
    of_none = λ s h k. absurd (omega (arith, early r e, same_code r s h, k));
    long = λ n. (λ h. absurd (never_written r n h), λ (j, m, l). none_some r (j.judged ∙ e));
    text = λ n h. absurd (never_written r n h);
    joins = λ n h. absurd (never_written r n h);
    untouched = λ h. refl;
  }

  by_limit : none ≡ two_judged period left right → (Within (joined_record period left right) z → ⊥)
      → JoinDemand period left right out (refused limit_exceeded out)
  unfolding refused
  by_limit e w = record {
    limit = (λ h. (e, w), λ h. refl);
    short = λ n. (
      λ h. absurd (omega (arith, same_code limit_exceeded (out_too_short n) h)),
      λ (j, m, l). absurd (w j.within),
    );
    of_none = λ s h k. let q : s ≡ limit_exceeded = cc in ap file q;
    long = λ n. (λ h. absurd (never_written limit_exceeded n h), λ (j, m, l). absurd (w j.within));
    text = λ n h. absurd (never_written limit_exceeded n h);
    joins = λ n h. absurd (never_written limit_exceeded n h);
    untouched = λ h. refl;
  }

  by_length : none ≡ two_judged period left right → Within (joined_record period left right) z
      → length out < length z → JoinDemand period left right out (refused (out_too_short (length z)) out)
  unfolding refused
  by_length e w l = record {
    limit = (
      λ h. absurd (omega (arith, same_code (out_too_short (length z)) limit_exceeded h)),
      λ (n, v). absurd (v w),
    );
    short = λ n. (
      λ h.
          let k : out_too_short (length z) ≡ out_too_short n = cc in
          let m : length z ≡ n = ap numbers.p k in
          (record { judged = e; within = w }, sym m, omega arith),
      λ (j, m, k). rw m,
    );
    of_none = λ s h k. let q : s ≡ out_too_short (length z) = cc in ap file q;
    long = λ n. (λ h. absurd (never_written (out_too_short (length z)) n h), λ (j, m, k). absurd (omega arith));
    text = λ n h. absurd (never_written (out_too_short (length z)) n h);
    joins = λ n h. absurd (never_written (out_too_short (length z)) n h);
    untouched = λ h. refl;
  }

  by_text : none ≡ two_judged period left right → Within (joined_record period left right) z
      → length z ≤ length out
      → JoinDemand period left right out (record { answer = Ok (length z); out = z ++ drop (length z) out })
  by_text e w l = record {
    limit = (λ h. absurd (never_written limit_exceeded (length z) (sym h)), λ (n, v). absurd (v w));
    short = λ n. (λ h. absurd (never_written (out_too_short n) (length z) (sym h)), λ (j, m, k). absurd (omega arith));
    of_none = λ s h k. absurd (never_written s (length z) (sym h));
    long = λ n. (
      λ h.
          let m : length z ≡ n = cc in
          (record { judged = e; within = w }, sym m, omega arith),
      λ (j, m, k). rw m,
    );
    text = λ n h. let m : length z ≡ n = cc in ap (λ (k : ℕ). z ++ drop k out) m;
    joins = λ n h.
        let m : length z ≡ n = cc in
        let front : z ≡ take n (z ++ drop (length z) out) =
        sym (ap (λ (k : ℕ). take k (z ++ drop (length z) out)) (sym m)
        ∙ take-append_seam z (drop (length z) out)) in
        let (a, b, j) = text_joins period left right (record { judged = e; within = w }) in
        (a, b, subst (Joins period left right a b) front j);
    untouched = λ h. absurd (h (length z) refl);
  }

  ends_demand : (o : Outcome) → Ends (two_judged period left right) (joined_record period left right) z out o
      → JoinDemand period left right out o
  ends_demand o (refuses r e) = by_code r e
  ends_demand o (passes e w) = by_limit e w
  ends_demand o (lacks e w l) = by_length e w l
  ends_demand o (writes e w l) = by_text e w l

  pub join_promised : JoinDemand period left right out (join_outcome period left right out)
  join_promised = ends_demand (join_outcome period left right out) (join_ends period left right out)
