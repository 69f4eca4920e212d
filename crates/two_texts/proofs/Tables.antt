-- The filled slices hold the systems of two accepted texts, the right's by the left's steps.
use mathlib.Core.Path.{◌≡◌, refl, ap, ◌∙◌}
use mathlib.Core.List.{List}
use Prim.Native.Nat.{ℕ, ◌+◌, ◌*◌, ◌≤◌, ◌<◌}
use native.Mathlib.Nat.{zero-add, mul-le-mul_left}
use native.Mathlib.Omega.{arith}
use lib.Arith.{digits_lt, digits_div, digits_mod}
use lib.ListN.{length, get_or}
use borrow.Author.Tests.{le-leb}
use Rattle.systems.specs.Renumbered.{renumbered}
use Rattle.reader_record.specs.declared.Text.{Text}
use Rattle.reader_formed.proofs.Cases.{when_equal}
use Rattle.bitmaps.specs.Bits.{tab_from}
use Rattle.bitmaps.specs.BitLaws.{tab_at, length_tab, written_at, written_length}
use Rattle.move_tables.specs.Moves.{Bounded, Encodes}
use Rattle.clocks.specs.States.{state_count, input}
use Rattle.clocks.proofs.Contract.{signature, system}
use Rattle.clocks.specs.Encoding.{Filled}
use Rattle.clocks.proofs.Encoded.{length_invariants, table_bounded, table_encoded, bits_bitmap, bits_start}
use Rattle.pairing.specs.Channels.{Channel}
use Rattle.pairing.specs.Table as by_map
use Rattle.pairing.specs.Equal.{tick_stays, step_there}
use Rattle.two_texts.specs.Two.{text_of, step_of, Compared, right_system}
use Rattle.two_texts.proofs.Laws.{Judged, named, channels_equal}
use Rattle.two_texts.specs.Loaded.{Loaded}
use Rattle.two_texts.specs.Answers.{sides_of, accepted as accepted_two, size_by_left, by_left, RightFilled}
use Rattle.limits.specs.Limits.{step_limit}

-- a text's table fits wherever one with the most steps does
pub table_fits : (t : Text) (steps room : ℕ) → steps ≤ step_limit → state_count t * step_limit ≤ room
    → state_count t * steps ≤ room
table_fits t steps room h l = omega (arith, mul-le-mul_left (state_count t) h)

module _ (period : ℕ) where
  module _ (left right : List ℕ) (j : Judged period left right) where
    -- each step of the left is a step of the right
    pub step_below : (c : ℕ) → c < (text_of period left).channel_count + 1
        → step_of period left right c < (text_of period right).channel_count + 1
    step_below c h =
        let wl = named period left j.left_read in
        let wr = named period right j.right_read in
        let e = channels_equal period left right j in
        when_equal (step_of period left right c < (text_of period right).channel_count + 1) c 0
        (λ z.
        let q : step_of period left right c ≡ 0 =
        ap (step_of period left right) z ∙ tick_stays left (text_of period left) right (text_of period right) wl wr e in
        omega arith)
        (λ z.
        let k : Channel (text_of period left) c = record { from_one = omega arith; declared = omega arith } in
        omega (arith, (step_there left (text_of period left) right (text_of period right) wl wr e c k).declared))

    pub map_at : (c : ℕ) → c < step_limit → get_or (tab_from (step_of period left right) 0 step_limit) c 0
        ≡ step_of period left right c
    map_at c h = tab_at (step_of period left right) 0 0 step_limit c h ∙ ap (step_of period left right) (zero-add c)

  -- the right's slices
  module _ (left right moves holds : List ℕ) (j : Judged period left right) (c : Compared period left right)
      (F : RightFilled period left right moves holds) where
    abbrev steps : ℕ
    steps = (text_of period left).channel_count + 1

    abbrev own_steps : ℕ
    own_steps = (text_of period right).channel_count + 1

    -- an entry by the left's step is the own table's entry by the right's
    entry_by_left : (s d : ℕ) → s < state_count (text_of period right) → d < steps
        → get_or moves (s * steps + d) 0 ≡ get_or F.own (s * own_steps + step_of period left right d) 0
    unfolding by_left by_map.renumbered
    entry_by_left s d h k =
        let p = s * steps + d in
        let f = by_map.renumbered F.own (tab_from (step_of period left right) 0 step_limit) own_steps steps in
        let e : get_or moves p 0 ≡ f p =
        ap (λ (l : List ℕ). get_or l p 0) F.moves_are
        ∙ written_at f (size_by_left period left right) F.before p (digits_lt h k) in
        let m = map_at left right j d (omega (arith, c.left_text.formed.channels)) in
        let g : f p ≡ get_or F.own (s * own_steps + step_of period left right d) 0 = rw
        (digits_div s k, digits_mod s k, m) in
        e ∙ g

    own_bounded : Bounded (state_count (text_of period right)) own_steps F.own
    own_bounded =
        table_bounded (text_of period right) c.right_text F.filled.over F.own F.filled.room
        F.filled.moves_are

    pub right_bounded : Bounded (state_count (text_of period right)) steps moves
    unfolding by_left
    right_bounded = record {
      few = own_bounded.few;
      short = omega (arith, c.left_text.formed.channels);
      room = omega (
        arith,
        F.space,
        ap length F.moves_are,
        written_length
            (by_map.renumbered F.own (tab_from (step_of period left right) 0 step_limit) own_steps steps)
            (size_by_left period left right) F.before F.space,
      );
      inside = λ s d h k. rw (entry_by_left s d h k)
          (own_bounded.inside s (step_of period left right d) h (step_below left right j d k));
    }

    pub right_encoded : Encodes (right_system period c).next (state_count (text_of period right)) steps moves
    unfolding renumbered system signature
    right_encoded = record {
      move = λ s d h k.
          let E = table_encoded (text_of period right) c.right_text F.filled.over F.own F.filled.room
          F.filled.moves_are (tab_from (input (text_of period right)) 0 step_limit) refl in
          rw (le-leb d (text_of period left).channel_count (omega arith), entry_by_left s d h k)
          (E.moves.move s (step_of period left right d) h (step_below left right j d k));
    }

  -- what is known of the slices of both texts is what the operations above work on
  module _ (left right lm rm lh rh : List ℕ) (j : Judged period left right) (c : Compared period left right)
      (L : Filled (text_of period left) lm lh) (R : RightFilled period left right rm rh) where
    pub both_loaded : Loaded period c lm rm lh rh (accepted_two (text_of period left) (text_of period right))
    unfolding accepted_two sides_of renumbered system
    both_loaded =
        let l = text_of period left in
        let r = text_of period right in
        let a = c.left_text in
        let b = c.right_text in
        record {
          left_size = refl;
          right_size = refl;
          left_start = refl;
          right_start = refl;
          steps_told = length_tab (input l) 0 step_limit;
          left_bounded = table_bounded l a L.over lm L.room L.moves_are;
          right_bounded = right_bounded left right rm rh j c R;
          left_encoded = table_encoded l a L.over lm L.room L.moves_are (tab_from (input l) 0 step_limit) refl;
          right_encoded = right_encoded left right rm rh j c R;
          left_bits = bits_bitmap l a L.under lh L.long L.holds_are (length_invariants l);
          left_invariants = bits_start l a L.under lh L.long L.holds_are (length_invariants l);
          right_bits = bits_bitmap r b R.filled.under rh R.filled.long R.filled.holds_are
              (length_invariants r);
          right_invariants = bits_start r b R.filled.under rh R.filled.long R.filled.holds_are
              (length_invariants r);
        }
