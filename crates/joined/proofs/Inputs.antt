-- The inputs of the joined record are those of the left that a joined edge has.
use Rattle.std.proofs.Common.{sym, subst}
use Rattle.std.specs.Prelude.{◌↔◌, Bool, true, false, ◌&&◌, cond, ℕ, ◌≤◌, T, ltb, leb}
use Rattle.systems.specs.Bools.{and_T, and_both}
use Rattle.reader_record.specs.declared.Direction.{Direction}
use Rattle.reader_record.specs.declared.Direction.TheVariants.{Unused}
use Rattle.reader_record.specs.declared.Text.{Text}
use Rattle.reader_record.specs.Record.{direction_of}
use Rattle.clocks.specs.States.{is_input, input}
use Rattle.clocks.proofs.Judgement.{input_known}
use Rattle.joined.specs.Joined.{joined_edges, has_channel, joined_text}
use Rattle.joined.proofs.Formed.{direction_at}

-- an input by its number and direction
pub input_parts : (t : Text) (c : ℕ) → T (input t c)
    → T (ltb 0 c && leb c t.channel_count) × T (is_input (direction_of t c))
unfolding input
input_parts t c i = and_both (ltb 0 c && leb c t.channel_count) (is_input (direction_of t c)) i

pub input_is : (t : Text) (c : ℕ) → T (ltb 0 c && leb c t.channel_count) → T (is_input (direction_of t c))
    → T (input t c)
unfolding input
input_is t c n d = and_T (ltb 0 c && leb c t.channel_count) (is_input (direction_of t c)) n d

used_only : (b : Bool) (d : Direction) → T (is_input (cond b d Unused)) ↔ (T (is_input d) × T b)
unfolding is_input
used_only true d = (λ h. (h, tt), λ (h, _). h)
used_only false d = (λ h. absurd h, λ (_, b). absurd b)

module _ (f : ℕ → ℕ) (l r : Text) where
  pub input_exactly : (c : ℕ) → T (input (joined_text f l r) c)
      ↔ (T (input l c) × T (has_channel (joined_edges f l r) c))
  input_exactly c = (
    λ i.
        let (n, d) = input_parts (joined_text f l r) c i in
        let (p, q) = input_known (joined_text f l r) c i in
        let (k, u) = (used_only (has_channel (joined_edges f l r) c) (direction_of l c)).0
        (subst (λ (d : Direction). T (is_input d)) (direction_at f l r c p (same_count q)) d) in
        (input_is l c (same_number n) k, u),
    λ (i, u).
        let (n, d) = input_parts l c i in
        let (p, q) = input_known l c i in
        input_is (joined_text f l r) c (number_same n)
        (subst (λ (d : Direction). T (is_input d)) (sym (direction_at f l r c p q))
        ((used_only (has_channel (joined_edges f l r) c) (direction_of l c)).1 (d, u))),
  )
    where
      same_count : c ≤ (joined_text f l r).channel_count → c ≤ l.channel_count
      same_count q = unfold joined_text in q

      same_number : T (ltb 0 c && leb c (joined_text f l r).channel_count)
          → T (ltb 0 c && leb c l.channel_count)
      same_number n = unfold joined_text in n

      number_same : T (ltb 0 c && leb c l.channel_count)
          → T (ltb 0 c && leb c (joined_text f l r).channel_count)
      number_same n = unfold joined_text in n
