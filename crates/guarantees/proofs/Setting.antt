-- Accepted texts and the finite systems that the operations compute on: codes 24 and 1 to 12 find nothing, each text's
-- system is capped to its numbered one, and the operations' outcomes are those of the two systems.
use Rattle.std.proofs.Math.Path.{◌≡◌, refl}
use Rattle.std.proofs.Common.{sym, subst, arith}
use Rattle.std.specs.Prelude.{Bool, if◌then◌else◌, List, ℕ, ltb, nat_lt, length, Result, Ok, Err}
use Rattle.std.proofs.Math.Bool.{true, false}
use Rattle.std.proofs.Math.Option.{none}
use Rattle.limits.specs.Limits.{largest_text, tick_allowed}
use Rattle.reader_record.specs.Formed.{WellFormed}
use Rattle.reader_record.specs.declared.Text.{Text}
use Rattle.reader_parts.specs.declared.Fault.TheVariants.{TooLong}
use Rattle.refusals.specs.declared.Refusal.{Refusal}
use Rattle.refusals.specs.Refusals.{tick_out_of_range}
use Rattle.refusals.specs.Answers.{answer_of}
use Rattle.reader.specs.Faults.{refusal_of}
use Rattle.reader.specs.Reading as reader
use Rattle.systems.specs.Finite.{FiniteSystem, Capping}
use Rattle.systems.specs.Renumbered.{renumbered_system, renumbered, renumbered_capping}
use Rattle.clocks.specs.Accepted.{Accepted}
use Rattle.clocks.specs.States.{state_count}
use Rattle.clocks.proofs.Contract.{signature, uncapped, system, capping}
use Rattle.clocks_read.specs.Laws.{read_accepted}
use Rattle.pairing.specs.Equal.{nothing_when_equal}
use Rattle.two_texts.specs.Two.{text_of, tick_judged, too_long_in, refused_in, refused_pairing, or_else, texts_judged, channels_judged, two_judged, step_of, Compared, left_system, right_system}
use Rattle.two_texts.proofs.Laws.{named, compared, judged_by_none}
use Rattle.search.specs.Outcome.{search_systems}
use Rattle.tables.specs.Outcome.{check_systems, widest_systems}
use Rattle.two_operations.specs.Outcome.{search_outcome, check_outcome, widest_outcome}
use Rattle.guarantees.specs.Texts.{AcceptedText, states, meaning, right_meaning, number, right_number, EqualChannels}

-- capping, whatever says that the record is well formed
unfoldable pub text_capping : (t : Text) (w : WellFormed t) (a : Accepted t) → Capping (uncapped t w) (system t a)
unfolding uncapped system signature
text_capping t w a = record {
  cap = (capping t a).cap;
  uncap = (capping t a).uncap;
  starts = (capping t a).starts;
  onto = (capping t a).onto;
  holding = (capping t a).holding;
  agree = (capping t a).agree;
}

module _ (period : ℕ) where
  -- an accepted text is read at an allowed tick length, and is not too long
  judged_first : (s : List ℕ) → AcceptedText period s
      → (tick_allowed period ≡ true) × (ltb largest_text (length s) ≡ false)
  unfolding reader.read_text
  judged_first s a = go (tick_allowed period) (nat_lt largest_text (length s)) _ (read_accepted period s a).parsed
    where
      go : (b c : Bool) (r : Result Text Refusal)
          → answer_of (if b then (if c then Err (refusal_of TooLong) else r) else Err (tick_out_of_range period))
          ≡ Ok tt
          → (b ≡ true) × (c ≡ false)
      go true true r e = let z : ◌≡◌ {A = ℕ} 0 1 = cc in absurd (omega arith)
      go true false r e = (refl, refl)
      go false c r e = let z : ◌≡◌ {A = ℕ} 0 1 = cc in absurd (omega arith)

  pub tick_is_allowed : (s : List ℕ) → AcceptedText period s → tick_allowed period ≡ true
  tick_is_allowed s a = (judged_first s a).0

  -- codes 24 and 1 to 12 find nothing
  pub nothing_found : (left right : List ℕ) → AcceptedText period left → AcceptedText period right
      → EqualChannels period left right
      → none ≡ two_judged period left right
  unfolding two_judged texts_judged channels_judged tick_judged too_long_in refused_in refused_pairing or_else
  nothing_found left right a b e =
      rw (
        tick_is_allowed left a,
        (judged_first left a).1,
        (judged_first right b).1,
        a,
        b,
        nothing_when_equal left (text_of period left) right (text_of period right)
            (named period left a) (named period right b) e,
      )

  -- the number of states that reading returns is that of the record
  pub states_are : (s : List ℕ) → AcceptedText period s → states period s ≡ state_count (text_of period s)
  states_are s a = (read_accepted period s a).states

  -- one accepted text
  module _ (s : List ℕ) (a : AcceptedText period s) (t : Accepted (text_of period s)) where
    abbrev pub Numbered : FiniteSystem (signature (text_of period s))
    Numbered = system (text_of period s) t

    abbrev pub one_capping : Capping (meaning period s a) Numbered
    one_capping = text_capping (text_of period s) (read_accepted period s a).accepted.formed t

    -- its size is the state count, and its numbers are the states' numbers
    pub numbered_states : states period s ≡ Numbered.size
    numbered_states = unfold system in states_are s a

    pub numbered_number : number period s a ≡ one_capping.cap
    numbered_number = unfold text_capping capping uncapped system in refl

  -- what two accepted texts with equal channels are computed on, and that it is their systems with capped clocks
  module _ (left right : List ℕ) (a : AcceptedText period left) (b : AcceptedText period right)
      (e : EqualChannels period left right) where
    abbrev pub both : Compared period left right
    both = compared period left right (nothing_found left right a b e)

    abbrev pub Left : FiniteSystem (signature (text_of period left))
    Left = left_system period both

    abbrev pub Right : FiniteSystem (signature (text_of period left))
    Right = right_system period both

    abbrev pub left_capping : Capping (meaning period left a) Left
    left_capping = one_capping left a both.left_text

    abbrev pub right_capping : Capping (right_meaning period left right b) Right
    right_capping = renumbered_capping (step_of period left right) both.inputs (meaning period right b)
        (system (text_of period right) both.right_text) (one_capping right b both.right_text)

    right_states : states period right ≡ Right.size
    right_states = unfold renumbered system in states_are right b

    right_numbers : right_number period left right b ≡ right_capping.cap
    right_numbers = unfold renumbered_capping renumbered_system renumbered text_capping capping uncapped system in refl

    -- what holds of an outcome by the sizes and numbers of the computed systems holds of it by those of the texts
    pub by_texts : {O : Type 0}
        (P : ℕ → ℕ → ((meaning period left a).State → ℕ) → ((right_meaning period left right b).State → ℕ) → O → Type 1)
        {o p : O}
        → o ≡ p → P Left.size Right.size left_capping.cap right_capping.cap p
        → P (states period left) (states period right) (number period left a) (right_number period left right b) o
    by_texts P {o} {p} z h =
        let n = numbered_states left a both.left_text in
        let f = numbered_number left a both.left_text in
        subst (λ (k : ℕ). P k (states period right) (number period left a) (right_number period left right b) o) (sym n)
        (subst (λ (k : ℕ). P Left.size k (number period left a) (right_number period left right b) o)
        (sym right_states)
        (subst (λ (g : (meaning period left a).State → ℕ). P Left.size Right.size g
        (right_number period left right b) o) (sym f)
        (subst (λ (g : (right_meaning period left right b).State → ℕ). P Left.size Right.size
        left_capping.cap g o)
        (sym right_numbers)
        (subst (P Left.size Right.size left_capping.cap right_capping.cap) (sym z) h))))

    pub form_sizes : (F : ℕ → ℕ → Type 0) → F (states period left) (states period right) → F Left.size Right.size
    form_sizes F h = subst (F Left.size) right_states
        (subst (λ (k : ℕ). F k (states period right)) (numbered_states left a both.left_text) h)

    -- the outcomes are those of the two systems
    pub search_is : (keep : List ℕ) (back line : ℕ) (run : List ℕ)
        → search_outcome period left right keep back line run ≡ search_systems Left Right keep back line run
    unfolding search_outcome
    search_is keep back line run = judged_by_none (two_judged period left right) _ _ (nothing_found left right a b e)

    pub check_is : (keep table : List ℕ) → check_outcome period left right keep table
        ≡ check_systems Left Right keep table
    unfolding check_outcome
    check_is keep table = judged_by_none (two_judged period left right) _ _ (nothing_found left right a b e)

    pub widest_is : (keep table : List ℕ) → widest_outcome period left right keep table
        ≡ widest_systems Left Right keep table
    unfolding widest_outcome
    widest_is keep table = judged_by_none (two_judged period left right) _ _ (nothing_found left right a b e)
