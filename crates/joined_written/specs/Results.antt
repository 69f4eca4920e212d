-- The text that is written for two accepted texts with equal channels is accepted, has equal channels with both, and is
-- satisfied by exactly the implementations that satisfy both (SPECIFICATION 17.10).
use Rattle.std.specs.Prelude.{◌≡◌, List, [], ℕ, ◌-◌, ◌≤◌, ◌<◌, T, length, get_or, Ok}
use Rattle.std.proofs.Common.{sym, subst, ◌∙◌, arith}
use Rattle.limits.specs.Limits.{shortest_tick, largest_text, state_limit}
use Rattle.refusals.specs.Answers.{answer_of}
use Rattle.reader_record.specs.declared.Text.{Text}
use Rattle.reader_record.specs.Formed.{WellFormed}
use Rattle.reader.specs.Reading.{record_of, read_text}
use Rattle.reader_formed.specs.Promise.{channel_name}
use Rattle.reader_formed.proofs.Formed.{read_formed}
use Rattle.clocks.specs.States.{state_count, input}
use Rattle.clocks.specs.Accepted.{Accepted}
use Rattle.pairing.specs.Channels.{spelling, Shared, EqualChannels, right_step}
use Rattle.pairing.specs.Equal.{read_named}
use Rattle.joined.specs.Joined.{joined_text, counts_fit}
use Rattle.joined.proofs.Paired.{PairedSteps}
use Rattle.joined.proofs.Alike.{Alike}
use Rattle.joined.proofs.Formed.{text_once, text_formed}
use Rattle.joined.proofs.AlikeLaws.{alike_accepted}
use Rattle.joined.proofs.PairedLaws.{right_steps}
use Rattle.joined.proofs.Judged.{input_same}
use Rattle.joined.proofs.Results.{text_conjunction, text_accepted}
use Rattle.written.proofs.Good.{ChannelNames}
use Rattle.written.proofs.Readable.{formed_readable}
use Rattle.written.specs.Underscores.{underscores_of, written_text}
use Rattle.written.proofs.Same.{ReadBack}
use Rattle.written.proofs.Slots.{spells_spelling}
use Rattle.written.proofs.Whole.{written_text_read}
use Rattle.written_names.specs.Spelled.{channel_spellings}
use Rattle.written_names.specs.Read.{spelling_at, channels_writable}
use Rattle.joined_written.specs.Joins.{JoinsTexts}
use Rattle.joined_written.specs.ReadBack.{read_back_alike}

-- a text whose channels are spelled as those of another, and have their directions, has equal channels with it
module _ (z : List ℕ) (x : Text) (s : List ℕ) (l : Text) (count : x.channel_count ≡ l.channel_count)
    (spelled : (i : ℕ) → i < l.channel_count → spelling z (channel_name x i) ≡ spelling s (channel_name l i))
    (inputs : (c : ℕ) → input x c ≡ input l c) where
  same_channels : EqualChannels z x s l
  same_channels = record {
    left = λ c k. record {
      other = c;
      there = record { from_one = k.from_one; declared = omega (arith, k.declared) };
      spelled = spelled (c - 1) (omega (arith, k.from_one, k.declared));
      direction = inputs c;
    };
    right = λ c k. record {
      other = c;
      there = record { from_one = k.from_one; declared = omega (arith, k.declared) };
      spelled = sym (spelled (c - 1) (omega (arith, k.from_one, k.declared)));
      direction = sym (inputs c);
    };
  }

-- equal channels go through a third text
through_shared : {z : List ℕ} {x : Text} {s : List ℕ} {l : Text} {u : List ℕ} {r : Text} {c : ℕ}
    (h : Shared z x s l c) → Shared s l u r h.other → Shared z x u r c
through_shared h k = record {
  other = k.other;
  there = k.there;
  spelled = h.spelled ∙ k.spelled;
  direction = h.direction ∙ k.direction;
}

through : (z : List ℕ) (x : Text) (s : List ℕ) (l : Text) (u : List ℕ) (r : Text) → EqualChannels z x s l
    → EqualChannels s l u r → EqualChannels z x u r
through z x s l u r h k = record {
  left = λ c m. let i = h.left c m in through_shared i (k.left i.other i.there);
  right = λ c m. let i = k.right c m in through_shared i (h.right i.other i.there);
}

module _ (period : ℕ) (s u : List ℕ) (left_read : answer_of (read_text period s) ≡ Ok tt)
    (right_read : answer_of (read_text period u) ≡ Ok tt) (a : Accepted (record_of (read_text period s)))
    (b : Accepted (record_of (read_text period u)))
    (equal : EqualChannels s (record_of (read_text period s)) u (record_of (read_text period u))) where
  -- the two records, the steps of the second by those of the first, and the names of the channels
  abbrev L : Text
  L = record_of (read_text period s)

  abbrev R : Text
  R = record_of (read_text period u)

  abbrev step : ℕ → ℕ
  step = right_step s L u R

  abbrev words : List (List ℕ)
  words = channel_spellings s L

  steps : PairedSteps step L R
  steps = right_steps s L u R (read_named period s left_read) (read_named period u right_read) equal

  module _ (fit : T (counts_fit (joined_text step L R))) (few : state_count (joined_text step L R) ≤ state_limit)
      (short : length (written_text words (joined_text step L R)) ≤ largest_text) where
    abbrev z : List ℕ
    z = written_text words (joined_text step L R)

    abbrev x : Text
    x = record_of (read_text shortest_tick z)

    formed : WellFormed (joined_text step L R)
    formed = text_formed step L R a.formed b.formed fit

    good : ChannelNames words (joined_text step L R).channel_count
    unfolding joined_text
    good = channels_writable period s left_read

    back : ReadBack z words (underscores_of words (joined_text step L R)) (joined_text step L R)
        (read_text shortest_tick z)
    back = written_text_read words (joined_text step L R) (formed_readable (joined_text step L R) formed) good short

    alike : Alike (joined_text step L R) x
    alike = read_back_alike (joined_text step L R) x z words (underscores_of words (joined_text step L R)) formed
        (text_once step L R) back.same

    channels_kept : x.channel_count ≡ L.channel_count
    unfolding joined_text
    channels_kept = back.same.channel_count

    names_kept : (i : ℕ) → i < L.channel_count → spelling z (channel_name x i) ≡ spelling s (channel_name L i)
    names_kept i h = spells_spelling z (channel_name x i) (get_or words i [])
        (back.same.channel_names i (unfold joined_text in h)) ∙ spelling_at s L i h

    left_same : EqualChannels z x s L
    left_same = same_channels z x s L channels_kept names_kept
        (λ c. alike.inputs c ∙ input_same step L R a b steps fit c)

    text_joins : JoinsTexts s u z L R x a b
    text_joins = record {
      accepted = alike_accepted (joined_text step L R) x alike (read_formed shortest_tick z back.accepted_is)
          (text_accepted step L R a b steps fit few);
      left_channels = left_same;
      right_channels = through z x s L u R left_same equal;
      conjunction = text_conjunction step L R a b steps fit x alike;
    }

-- the texts s and u, whose records l and r are accepted and have equal channels; z is the text that is written for them
module _ (period : ℕ) (s u : List ℕ) (left_read : answer_of (read_text period s) ≡ Ok tt)
    (right_read : answer_of (read_text period u) ≡ Ok tt) where
  abbrev joined_bytes : Text → Text → List ℕ
  joined_bytes l r = written_text (channel_spellings s l) (joined_text (right_step s l u r) l r)

  -- where it is within the limits, it is read with tick length 1 and joins the two
  abbrev WrittenJoins : Text → Text → Type 1
  WrittenJoins l r = (a : Accepted l) (b : Accepted r) → EqualChannels s l u r
      → T (counts_fit (joined_text (right_step s l u r) l r))
      → state_count (joined_text (right_step s l u r) l r) ≤ state_limit
      → length (joined_bytes l r) ≤ largest_text
      → (answer_of (read_text shortest_tick (joined_bytes l r)) ≡ Ok tt)
      × JoinsTexts s u (joined_bytes l r) l r (record_of (read_text shortest_tick (joined_bytes l r))) a b

  read_joins : WrittenJoins (record_of (read_text period s)) (record_of (read_text period u))
  read_joins a b equal fit few short = (
    (back period s u left_read right_read a b equal fit few short).accepted_is,
    text_joins period s u left_read right_read a b equal fit few short,
  )

  pub written_joins : (l r : Text) → record_of (read_text period s) ≡ l → record_of (read_text period u) ≡ r → WrittenJoins l r
  written_joins l r p q = subst (λ (t : Text). WrittenJoins t r) p
      (subst (λ (t : Text). WrittenJoins (record_of (read_text period s)) t) q read_joins)
