-- The record that the code builds for two texts, and the outcome of joining by it.
use Rattle.std.specs.Prelude.{◌≡◌, true, false, ℕ, ◌≤◌, ◌<◌, T, Result, Ok, Err, IsErrAnd, Option, None, Some, ok_or}
use Rattle.std.proofs.Math.Path.{refl, ap}
use Rattle.std.proofs.Common.{sym, subst, ◌∙◌, arith}
use mathlib.Core.List.{List}
use Rattle.limits.specs.Limits.{state_limit, step_limit}
use Rattle.refusals.specs.declared.Refusal.{Refusal}
use Rattle.refusals.specs.Refusals.{limit_exceeded}
use Rattle.bitmaps.specs.Bits.{tab_from}
use Rattle.reader_record.specs.declared.Text.{Text}
use Rattle.reader_record.specs.Formed.{WellFormed}
use Rattle.clocks.specs.States.{state_count}
use Rattle.clocks_states.specs.Parts.{Countable}
use Rattle.pairing.specs.Channels.{right_step}
use Rattle.written.specs.Underscores.{written_text}
use Rattle.written_names.specs.Spelled.{channel_spellings}
use Rattle.joined.specs.Joined.{joined_text, counts_fit}
use Rattle.joined.proofs.Alike.{Alike}
use Rattle.joined.proofs.AlikeLaws.{state_count_same}
use Rattle.joined.proofs.Formed.{text_formed}
use Rattle.joined_written.specs.Text.{text_same}
use Rattle.writer_lists.specs.Lists.{TextWithin}
use Rattle.joining_edges.specs.Edges.{by_map}
use Rattle.joining_record.specs.Records.{JoinedRecord, JoinsRecords}
use Rattle.joining_record.specs.Table.{joined_by_table}
use Rattle.joining.specs.Outcome.{Outcome, refused, record_outcome}
use Rattle.joining.specs.Ready.{Ready, bytes_outcome}
use Rattle.joining.proofs.Laws.{over_counts, over_states, by_text}
use Rattle.joining.proofs.Built.{alike_countable, spellings_same, alike_within}

-- what `ok_or` makes of the joined record: a refusal where there is none
none_of : (j : Option Text) (q : Result Text Refusal) (e : Refusal) → q ≡ ok_or j limit_exceeded → q ≡ Err e
    → (j ≡ None) × (e ≡ limit_exceeded)
none_of None q e a b = (refl, inner (sym b ∙ a))
  where
    inner : ◌≡◌ {A = Result Text Refusal} (Err e) (Err limit_exceeded) → e ≡ limit_exceeded
    inner i = cc
none_of (Some x) q e a b = absurd (inner (sym b ∙ a))
  where
    inner : ◌≡◌ {A = Result Text Refusal} (Err e) (Ok x) → ⊥
    inner i = cc

some_of : (j : Option Text) (q : Result Text Refusal) (t : Text) → q ≡ ok_or j limit_exceeded → q ≡ Ok t → j ≡ Some t
some_of None q t a b = absurd (inner (sym b ∙ a))
  where
    inner : ◌≡◌ {A = Result Text Refusal} (Ok t) (Err limit_exceeded) → ⊥
    inner i = cc
some_of (Some x) q t a b = inner (sym b ∙ a)
  where
    inner : ◌≡◌ {A = Result Text Refusal} (Ok t) (Ok x) → ◌≡◌ {A = Option Text} (Some x) (Some t)
    inner i = cc

is_refused : (a : Result ℕ Refusal) {e : Refusal} → IsErrAnd a (λ d. d ≡ e) → a ≡ Err e
is_refused (Ok x) h = absurd h
is_refused (Err d) h = ap Err h

not_joined : (l r : Text) (map : List ℕ) (j : Option Text) → JoinsRecords l r map j → j ≡ None
    → counts_fit (joined_text (by_map map) l r) ≡ false
unfolding JoinsRecords
not_joined l r map j b e = rw e at b

joins_some : (l r : Text) (map : List ℕ) (j : Option Text) (t : Text) → JoinsRecords l r map j → j ≡ Some t
    → JoinedRecord l r map t
unfolding JoinsRecords
joins_some l r map j t b e = rw e at b

pub joins : (l r : Text) (map : List ℕ) (j : Option Text) (q : Result Text Refusal) (t : Text)
    → JoinsRecords l r map j → q ≡ ok_or j limit_exceeded → q ≡ Ok t → JoinedRecord l r map t
joins l r map j q t b a e = joins_some l r map j t b (some_of j q t a e)

-- for the records l and r of the texts `left` and `right`, by a table of the right's numbers of the left's steps
module _ (left right : List ℕ) (l r : Text) (ready : Ready left l r) {map : List ℕ}
    (table : map ≡ tab_from (right_step left l right r) 0 step_limit) where
  -- the joined record of the two, and its text
  abbrev J : Text
  J = joined_text (right_step left l right r) l r

  abbrev z : List ℕ
  z = written_text (channel_spellings left l) J

  same_record : joined_text (by_map map) l r ≡ J
  same_record = rw table (joined_by_table (right_step left l right r) l r ready.left_formed)

  -- where a count passes its limit
  pub no_record : (j : Option Text) (q : Result Text Refusal) {e : Refusal} {a : Result ℕ Refusal} (out : List ℕ)
      → JoinsRecords l r map j → q ≡ ok_or j limit_exceeded → q ≡ Err e → IsErrAnd a (λ d. d ≡ e)
      → ◌≡◌ {A = Outcome} (record { answer = a; out = out }) (record_outcome J z out)
  unfolding refused
  no_record j q {e = e} {a = a} out b o x h =
      let n = none_of j q e o x in
      rw (is_refused a h, n.1) (over_counts J z out (sym (ap counts_fit same_record) ∙ not_joined l r map j b n.0))

  -- else t is a record that says the same
  module _ {t : Text} (built : JoinedRecord l r map t) where
    fit : counts_fit J ≡ true
    fit = sym (ap counts_fit same_record) ∙ built.fits

    alike : Alike J t
    alike = subst (λ (x : Text). Alike x t) same_record built.alike

    formed : WellFormed J
    formed = text_formed (right_step left l right r) l r ready.left_formed ready.right_formed (subst T (sym fit) tt)

    pub countable : Countable t
    countable = alike_countable J t alike formed

    pub writable : TextWithin left t
    unfolding joined_text
    writable = alike_within left l J t alike formed ready.names refl built.names

    text_is : written_text (channel_spellings left t) t ≡ z
    unfolding joined_text
    text_is =
        ap (λ (names : List (List ℕ)). written_text names t)
        (spellings_same left l t alike.channel_count built.names)
        ∙ text_same J t alike (channel_spellings left l)

    pub many_states : {n : ℕ} (out : List ℕ) → n ≡ state_count t → state_limit < n
        → ◌≡◌ {A = Outcome} (record { answer = Err limit_exceeded; out = out }) (record_outcome J z out)
    unfolding refused
    many_states out e h =
        over_states J z out fit (omega (arith, e, h, state_count_same J t formed alike))

    pub few_states : {n : ℕ} {o : Outcome} (out : List ℕ) → n ≡ state_count t → n ≤ state_limit
        → o ≡ bytes_outcome (written_text (channel_spellings left t) t) out → o ≡ record_outcome J z out
    few_states out e h d =
        d ∙ ap (λ (y : List ℕ). bytes_outcome y out) text_is
        ∙ by_text J z out fit (omega (arith, e, h, state_count_same J t formed alike))
