-- The channels of an accepted text have names that differ: they can be written again.
use Rattle.std.specs.Prelude.{◌≡◌, List, [], ℕ, ◌+◌, ◌<◌, ltb, length, get_or, drop, Result, Ok, Err, IfOk}
use Rattle.std.proofs.Math.Path.{refl}
use Rattle.std.proofs.Common.{sym, ◌∙◌, arith, take-append-drop, length-drop, length-take-le}
use Rattle.std.proofs.lemmas.Result.{IfOk-weaker}
use Rattle.reader_tokens.specs.Kinds as kinds
use Rattle.limits.specs.Limits.{largest_text, tick_allowed}
use Rattle.reader_record.specs.declared.Name.{Name}
use Rattle.reader_record.specs.declared.Text.{Text}
use Rattle.reader_parts.specs.declared.Fault.{Fault}
use Rattle.reader_parts.specs.Stages.{◌>>=◌, ahead}
use Rattle.reader_parts.specs.Binds.{after}
use Rattle.reader_lists.specs.Lists.{Item, items}
use Rattle.reader_lists.specs.Lists.Item.{Channel, Clock, Location, Edge}
use Rattle.reader_lists.specs.State.{State, no_text, next_token, with_init}
use Rattle.refusals.specs.declared.Refusal.{Refusal}
use Rattle.refusals.specs.Answers.{answer_of}
use Rattle.reader.specs.Reading.{start, list_part, channel_part, process_read, process_part, location_part, init_read, init_part, end_read, end_part, read_whole, answer, record_of, read_text}
use Rattle.reader_formed.specs.Promise.{channel_name, Within}
use Rattle.reader_formed.proofs.Cases.{split, either, never, when_equal}
use Rattle.reader_formed.proofs.Formed.{of_accepted, read_names, read_differ}
use Rattle.written.proofs.Good.{ChannelNames}
use Rattle.written.proofs.Same.{Spells}
use Rattle.pairing.specs.Channels.{spelling, alike}
use Rattle.pairing.specs.Spelled.{spelled_alike}
use Rattle.bitmaps.specs.BitLaws.{tab_at}
use Rattle.written_names.specs.Spelled.{channel_spellings}
use Rattle.written_names.specs.Channels.{NamedChannels, KeepsNames, then_keeps, next_keeps_names, channel_list_keeps, SameNames, names_self, same_named, LeavesNames, leaves_then, next_leaves, clocks_names, locations_names, edges_names}

module _ (period : ℕ) (s : List ℕ) where
  -- a part that leaves the names of the channels keeps that they are names
  part_keeps : (r : State) {q : Result State Fault} → LeavesNames r q → KeepsNames s r q
  part_keeps r {q} a = record {
    named = λ h. IfOk-weaker q (λ x. SameNames r.text x.text) (λ x. NamedChannels s x.text) (λ x b. same_named b h) a;
  }

  optional_passes : (word : ℕ) (k : Item) → ((r : State) → LeavesNames r (items period k s r)) → (r : State)
      → LeavesNames r (list_part period word k s r)
  unfolding list_part
  optional_passes word k f r =
      either (λ (q : Result State Fault). LeavesNames r q) (ahead s r.place word)
      (leaves_then r (next_token s word r) (items period k s) (next_leaves period s word r) f)
      (names_self r.text)

  process_passes : (r : State) → LeavesNames r (process_part s r)
  unfolding process_part
  process_passes r =
      after (process_read s r.place r.names) _ (λ q. SameNames r.text q.text) (λ d. names_self r.text)

  location_passes : (r : State) → LeavesNames r (location_part period s r)
  unfolding location_part
  location_passes r =
      leaves_then r (next_token s kinds.state r) (items period Location s) (next_leaves period s kinds.state r)
      (locations_names period s)

  init_passes : (r : State) → LeavesNames r (init_part s r)
  unfolding init_part with_init
  init_passes r =
      after (init_read s r.place r.names) _ (λ q. SameNames r.text q.text)
      (λ u. record { size = refl; count = refl; name = λ c. refl })

  end_passes : (r : State) → LeavesNames r (end_part s r)
  unfolding end_part
  end_passes r = after (end_read s r.place r.names) _ (λ q. SameNames r.text q.text) (λ p. names_self r.text)

  channels_named : KeepsNames s start (channel_part period s start)
  unfolding channel_part
  channels_named =
      either (λ (q : Result State Fault). KeepsNames s start q) (ahead s start.place kinds.broadcast)
      (then_keeps s (next_token s kinds.broadcast start >>= next_token s kinds.chan) (items period Channel s)
      (then_keeps s (next_token s kinds.broadcast start) (next_token s kinds.chan)
      (next_keeps_names s kinds.broadcast start) (next_keeps_names s kinds.chan))
      (channel_list_keeps period s))
      (record { named = λ h. h })

  whole_named : IfOk (read_whole period s) (λ r. NamedChannels s r.text)
  unfolding read_whole start no_text
  whole_named =
      (then_keeps s _ _ (then_keeps s _ _ (then_keeps s _ _ (then_keeps s _ _ (then_keeps s _ _ (then_keeps s _ _
      channels_named (λ r. part_keeps r (process_passes r)))
      (λ r. part_keeps r (optional_passes kinds.clock Clock (clocks_names period s) r)))
      (λ r. part_keeps r (location_passes r)))
      (λ r. part_keeps r (init_passes r)))
      (λ r. part_keeps r (optional_passes kinds.trans Edge (edges_names period s) r)))
      (λ r. part_keeps r (end_passes r))).named
      (record { size = refl; name = λ c l. absurd (omega arith) })

answered : (s : List ℕ) (r : Result State Fault) → IfOk r (λ q. NamedChannels s q.text)
    → IfOk (answer r) (NamedChannels s)
answered s (Ok r) f = f
answered s (Err x) f = tt

text_named : (period : ℕ) (s : List ℕ) → IfOk (read_text period s) (NamedChannels s)
unfolding read_text
text_named period s =
    split P (tick_allowed period)
    (λ _. split P (ltb largest_text (length s)) (λ _. tt) (λ _. answered s (read_whole period s) (whole_named period s)))
    (λ _. tt)
  where
    P : Result Text Refusal → Type 0
    P r = IfOk r (NamedChannels s)

-- each of the spellings
pub spelling_at :
    (s : List ℕ) (t : Text) (i : ℕ) → i < t.channel_count
    → get_or (channel_spellings s t) i [] ≡ spelling s (channel_name t i)
unfolding channel_spellings
spelling_at s t i h =
    let e : 0 + i ≡ i = omega arith in
    rw e at (tab_at (λ c. spelling s (channel_name t c)) [] 0 t.channel_count i h)

-- a name within the text is spelled as its bytes
pub within_spells : (s : List ℕ) (n : Name) → Within s n → Spells s n (spelling s n)
within_spells s n w = record {
  size = sym (length-take-le n.len (drop n.place s) (omega (arith, length-drop n.place s, w.inside)));
  rest = drop n.len (drop n.place s);
  there = sym (take-append-drop n.len (drop n.place s));
}

module _ (period : ℕ) (s : List ℕ) (a : answer_of (read_text period s) ≡ Ok tt) where
  abbrev t : Text
  t = record_of (read_text period s)

  -- two channels with one spelling are one
  one_spelling :
      (i j : ℕ) → i < t.channel_count → j < t.channel_count
      → spelling s (channel_name t i) ≡ spelling s (channel_name t j) → i ≡ j
  unfolding alike
  one_spelling i j h l e =
      when_equal (i ≡ j) i j
      (λ q. q)
      (λ q. never (sym (spelled_alike s (channel_name t i) s (channel_name t j) (within i h) (within j l) e)
      ∙ (read_differ period s a).channels i j h l q))
    where
      within : (c : ℕ) → c < t.channel_count → Within s (channel_name t c)
      within c k = (read_names period s a).channel c k

  -- the channels of an accepted text: names that differ
  pub channels_writable : ChannelNames (channel_spellings s t) t.channel_count
  channels_writable = record {
    name = λ i h. rw (spelling_at s t i h)
        ((of_accepted (NamedChannels s) (read_text period s) (text_named period s) a).name i h);
    differ = λ i j h l e. one_spelling i j h l (sym (spelling_at s t i h) ∙ e ∙ spelling_at s t j l);
  }
