-- Names of channels, and assignments clock by clock.
use Rattle.std.specs.Prelude.{◌≡◌, refl, Bool, true, false, cond, ◌||◌, List, [], ◌∷◌, ◌++◌, get_or}
use Rattle.std.proofs.Common.{sym, ap, ◌∙◌, zero-add}
use Prim.Native.Nat.{ℕ, suc, ◌+◌, ◌-◌, ◌≤◌, ◌<◌}
use Rattle.std.proofs.Math.Numerals.{add-one}
use native.Mathlib.Omega.{arith}
use Rattle.bitmaps.specs.BitLaws.{tab_at}
use Rattle.reader_tokens.specs.Scan.{bytes}
use Rattle.reader_record.specs.Record.{no_assignment}
use Rattle.reader_record.specs.declared.Channel.{Channel}
use Rattle.reader_record.specs.declared.Assignment.{Assignment}
use Rattle.pairing.specs.Channels.{spelling}
use Rattle.written.specs.Spaced.{part_tokens, later_items}
use Rattle.written.specs.Written.{assigned_clocks, assignment_tokens, assignments_tokens}
use Rattle.written_names.specs.Inside.{name_at, names_in}
use Rattle.writer_parts.specs.Parts.{assignment_step, assignment_items, assignments_left}

pub name_in :
    (s : List ℕ) (channels : List Channel) (count i : ℕ) → i < count
    → spelling s (name_at channels i) ≡ get_or (names_in s channels count) i []
unfolding names_in
name_in s channels count i h =
    sym (tab_at (λ k. spelling s (name_at channels k)) [] 0 count i h
    ∙ ap (λ (k : ℕ). spelling s (name_at channels k)) (zero-add i))

-- one clock's assignment, and those after it
items_step :
    (u i : ℕ) (all : List Assignment) (clocks : List ℕ) (some made : Bool) → (get_or all i no_assignment).made ≡ made
    → assignment_items some u all (cond made (i ∷ clocks) clocks)
    ≡ assignment_step (get_or all i no_assignment) some u i ++ assignment_items (some || made) u all clocks
unfolding assignment_items assignment_step assignment_tokens part_tokens later_items
items_step u i all clocks false false e = rw e
items_step u i all clocks true false e = rw e
items_step u i all clocks false true e = rw e
items_step u i all clocks true true e = rw e

module _ (u : ℕ) (all : List Assignment) (n i : ℕ) where
  pub assignments_more :
      (some : Bool) → i < n
      → assignments_left some u all n i
      ≡ assignment_step (get_or all i no_assignment) some u i
      ++ assignments_left (some || (get_or all i no_assignment).made) u all n (i + 1)
  unfolding assignments_left assigned_clocks
  assignments_more some h =
      let e : n - i ≡ suc (n - (i + 1)) = omega arith in
      rw (e, add-one i) (items_step u i all (assigned_clocks all (suc i) (n - (suc i))) some
      (get_or all i no_assignment).made refl)

  pub assignments_none : n ≤ i → assignments_left false u all n i ≡ []
  unfolding assignments_left assignment_items assigned_clocks part_tokens
  assignments_none h = let e : n - i ≡ 0 = omega arith in rw e

  pub assignments_end : n ≤ i → assignments_left true u all n i ≡ bytes ";" ∷ []
  unfolding assignments_left assignment_items assigned_clocks later_items
  assignments_end h = let e : n - i ≡ 0 = omega arith in rw e

pub assignments_all :
    (u clocks : ℕ) (all : List Assignment)
    → assignments_tokens u clocks all ≡ assignments_left false u all clocks 0
unfolding assignments_left assignment_items assignments_tokens
assignments_all u clocks all = let e : clocks - 0 ≡ clocks = omega arith in rw e
