-- Laws of the lines' parts: a number's last digit, a part of a text, a step, and one step more.
use mathlib.Core.Path.{◌≡◌, refl, sym, ap, ◌∙◌}
use mathlib.Core.Bool.{true, false}
use mathlib.Core.Logic.{⊎_elim}
use mathlib.Core.List.{List, [], ◌∷◌, ◌++◌, append_assoc, append-nil}
use Prim.Native.Nat.{ℕ, zero, suc, ◌+◌, ◌-◌, ◌/◌, ◌%◌, ◌<◌, ◌≤◌, min}
use native.Mathlib.Numerals.{add-one}
use native.Mathlib.Omega.{arith}
use lib.Dec.{eqb}
use lib.ListN.{length, get_or, take, drop, length-append, length-drop, drop_of_length-le}
use lib.Seq.{take_all, take-nil, take-suc}
use borrow.Author.Tests.{eqb-false}
use Rattle.systems.specs.Definitions.{tick}
use Rattle.bitmaps.specs.BitLaws.{less}
use Rattle.refusals.specs.declared.Refusal.{Refusal}
use Rattle.refusals.specs.Refusals.{mark, code, file, p, q}
use Rattle.reader_record.specs.declared.Channel.{Channel}
use Rattle.reader_record.specs.Record.{no_channel}
use Rattle.byte_slices.specs.Decimal.{ascii, digit, decimal}
use Rattle.tables_header.specs.Header.{space}
use Rattle.byte_slices.specs.DecimalLaws.{decimal_one, decimal_more, decimal_within}
use Rattle.printed_lines.specs.Room.{most_digits, line_limit}
use Rattle.printed_lines.specs.Lines.{spaced, line, refusal_line, channel_line, step_line, step_lines}

-- a number of 64 bits has few digits, and so a line of such numbers few bytes
pub spaced_short : (n : ℕ) → n < 18446744073709551616 → length (space ++ decimal n) ≤ most_digits + 1
spaced_short n h = omega (arith, decimal_within 19 n (omega arith))

-- such a number after its space
abbrev pub Short : ℕ → Type 0
Short n = length (space ++ decimal n) ≤ most_digits + 1

pub one_number : (word : List ℕ) (n : ℕ) → Short n → length (line word (n ∷ [])) ≤ length word + most_digits + 2
unfolding line spaced
one_number word n h = simp length-append (omega arith)

pub four_numbers :
    (f : Refusal) → Short (code f) → Short (mark (file f)) → Short (p f) → Short (q f)
    → length (refusal_line f) ≤ line_limit
unfolding refusal_line line spaced
four_numbers f h i j k = simp length-append (omega arith)

-- the front of a slice, as far as it goes
pub front_of : {end : ℕ} (n : ℕ) (s : List ℕ) → end ≡ min (length s) n → take end s ≡ take n s
front_of {end} n s e =
    ⊎_elim (λ l. take_all end s (omega arith) ∙ sym (take_all n s (omega arith)))
    (λ l. let f : end ≡ n = omega arith in rw f)
    (less (length s) n)

-- a part of a slice whose ends are kept within it
pub part_of :
    {start end : ℕ} (place len : ℕ) (s : List ℕ) → start ≡ min (length s) place → end ≡ min (length s) (place + len)
    → take (end - start) (drop start s) ≡ take len (drop place s)
part_of {start} {end} place len s a b =
    ⊎_elim outside (λ l. ⊎_elim (cut l) (whole l) (less (length s) (place + len))) (less (length s) place)
  where
    outside : length s < place → take (end - start) (drop start s) ≡ take len (drop place s)
    outside l =
        let e : end - start ≡ 0 = omega arith in
        rw (e, drop_of_length-le s {i = place} (omega arith), take-nil)

    cut : place ≤ length s → length s < place + len → take (end - start) (drop start s) ≡ take len (drop place s)
    cut l m =
        let e : start ≡ place = omega arith in
        rw e
        (take_all (end - place) (drop place s) (omega (arith, length-drop place s))
        ∙ sym (take_all len (drop place s) (omega (arith, length-drop place s))))

    whole : place ≤ length s → place + len ≤ length s → take (end - start) (drop start s) ≡ take len (drop place s)
    whole l m =
        let e : start ≡ place = omega arith in
        let f : end - start ≡ len = omega arith in
        rw (f, e)

module _ (s : List ℕ) (channels : List Channel) where
  -- a step that is the tick, and one that is not
  pub tick_line : (step : ℕ) → eqb step tick ≡ true → ascii "tick\n" ≡ step_line s channels step
  unfolding step_line
  tick_line step e = rw e

  pub other_line :
      (step c : ℕ) (k : Channel) → eqb step tick ≡ false → c ≡ step → k ≡ get_or channels (c - 1) no_channel
      → channel_line s k ≡ step_line s channels step
  unfolding step_line
  other_line step c k e d f = rw (e, f, d)

  one_more :
      (run : List ℕ) (step : ℕ)
      → step_lines s channels run ++ step_line s channels step ≡ step_lines s channels (run ++ (step ∷ []))
  unfolding step_lines
  one_more [] step = sym (append-nil (step_line s channels step))
  one_more (first ∷ run) step =
      append_assoc (step_line s channels first) (step_lines s channels run) (step_line s channels step)
      ∙ ap (λ (l : List ℕ). step_line s channels first ++ l) (one_more run step)

  -- one step more of a run
  pub step_more :
      (run : List ℕ) (i step : ℕ) → i < length run → step ≡ get_or run i 0
      → step_lines s channels (take i run) ++ step_line s channels step ≡ step_lines s channels (take (i + 1) run)
  step_more run i step l e = rw (add-one i, take-suc run i 0 l, e) (one_more (take i run) (get_or run i 0))

-- a step that is not the tick has a channel, numbered from 1
pub past_tick : (n : ℕ) → eqb n tick ≡ false → tick < n
past_tick zero e = absurd (eqb-false zero tick e refl)
past_tick (suc n) e = omega arith
