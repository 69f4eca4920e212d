-- Refusals, each with its code and byte place (SPECIFICATION 4.5), and texts at the edges of the rules: computed by the
-- definition of reading.
use Rattle.std.specs.Prelude.{◌≡◌, refl, ℕ, suc, replicate, Ok, Err}
use Prim.Native.Char.{code}
use Prim.Native.String.{String}
use Rattle.refusals.specs.declared.File.TheVariants.{Left}
use Rattle.refusals.specs.declared.Refusal.{Refusal}
use Rattle.refusals.specs.declared.Refusal.TheVariants.{TextTooLong, Misfit, NameTooLong, DeclaredBefore, UnknownName, ConstantTooLarge, TooManyItems, OtherMark}
use Rattle.refusals.specs.Refusals.{tick_out_of_range}
use Rattle.refusals.specs.Answers.{answer_of}
use Rattle.reader_tokens.specs.Scan.{bytes}
use Rattle.reader.specs.Reading.{read_text}
use Rattle.reader_examples.specs.Opened.{opened}
use Rattle.limits.specs.Limits.{largest_text, shortest_tick, longest_tick}

-- at a tick length the text is refused so
abbrev pub RefusesAt : ℕ → String → Refusal → Type 0
RefusesAt period s r = read_text period (bytes s) ≡ Err r

abbrev pub AcceptsAt : ℕ → String → Type 0
AcceptsAt period s = answer_of (read_text period (bytes s)) ≡ Ok tt

-- the same at tick length 1
abbrev pub Refuses : String → Refusal → Type 0
Refuses = RefusesAt shortest_tick

abbrev pub Accepts : String → Type 0
Accepts = AcceptsAt shortest_tick

pub too_long :
    read_text shortest_tick (replicate (suc largest_text) (code " ")) ≡ Err (TextTooLong Left)
unfolding opened
too_long = refl

-- each code of reading but 1, by a text or more (SPECIFICATION 4.5)
pub record Codes : Type 0 where
  -- 2, at the end
  pub empty : Refuses "" (Misfit Left 0)
  -- 2, at a token
  pub first_misfit : Refuses "process P(){init A;}system P;" (Misfit Left 12)
  -- 3, of 32 bytes
  pub long_name : Refuses "broadcast chan nnnnnnnnnnnnnnnnnnnnnnnnnnnnnnnn;process P(){state A;init A;}system P;"
      (NameTooLong Left 15)
  -- 4, a channel
  pub twice : Refuses "broadcast chan a,b,a;process P(){state A;init A;}system P;" (DeclaredBefore Left 19)
  -- 5, without a declaration
  pub undeclared : Refuses "process P(){state A;init B;}system P;" (UnknownName Left 25)
  -- 5, with one of another kind
  pub wrong_kind : Refuses "broadcast chan a;process P(){state A;init a;}system P;" (UnknownName Left 42)
  -- 5, after `system`
  pub other_process : Refuses "process P(){state A;init A;}system Q;" (UnknownName Left 35)
  -- 6, in an invariant
  pub large : Refuses "process P(){clock x;state A{x<=1001},B;init B;}system P;" (ConstantTooLarge Left 31)
  -- 7, a clock
  pub clock_four : Refuses "process P(){clock x,y,z,w;state A;init A;}system P;" (TooManyItems Left 24)
  -- 7, a channel
  pub channel_seventeen : Refuses
      "broadcast chan c0,c1,c2,c3,c4,c5,c6,c7,c8,c9,c10,c11,c12,c13,c14,c15,d;process P(){state A;init A;}system P;"
      (TooManyItems Left 69)
  -- 7, a location
  pub location_thirty_three : Refuses
      "process P(){state l0,l1,l2,l3,l4,l5,l6,l7,l8,l9,l10,l11,l12,l13,l14,l15,l16,l17,l18,l19,l20,l21,l22,l23,l24,l25,l26,l27,l28,l29,l30,l31,m;init l0;}system P;" (TooManyItems Left 136)
  -- 7, a comparison
  pub comparison_five : Refuses "process P(){clock x;state A{x<=1&&x<=1&&x<=1&&x<=1&&x<=1},B;init B;}system P;"
      (TooManyItems Left 52)
  -- 8, an output before
  pub mark : Refuses "broadcast chan a,b;process P(){clock x;state A,B;init A;trans A->B{sync a!;},B->A{sync a?;};}system P;" (OtherMark Left 87)

pub codes : Codes
unfolding opened
codes =
    record {
      empty = refl;
      first_misfit = refl;
      long_name = refl;
      twice = refl;
      undeclared = refl;
      wrong_kind = refl;
      other_process = refl;
      large = refl;
      clock_four = refl;
      channel_seventeen = refl;
      location_thirty_three = refl;
      comparison_five = refl;
      mark = refl;
    }

-- texts at the edges of the rules: places, white space, longest tokens, values of numerals, and which of two faults is
-- given (SPECIFICATION 2.1 to 2.5, 3.4, 4.1 to 4.6)
pub record Ties : Type 0 where
  -- the end is at the length of the text
  pub the_end : Refuses "process \n" (Misfit Left 9)
  -- white space may stand before the first token and after the last
  pub around : Accepts "\n\t process P(){state A;init A;}system P; \r\n"
  -- other bytes are no space
  pub form_feed : Refuses "process\u{c} P(){state A;init A;}system P;" (Misfit Left 7)
  -- also after the last token
  pub after_last : Refuses "process P(){state A;init A;}system P;@" (Misfit Left 37)
  -- a lone `-` as the last byte is no end
  pub lone_mark : Refuses "process P(){state A;init A;}system P;-" (Misfit Left 37)
  -- `- >` is no `->`
  pub parted : Refuses "broadcast chan a,b;process P(){clock x;state A,B;init A;trans A- >B{sync a!;};}system P;"
      (Misfit Left 63)
  -- `3x` is a numeral and a name
  pub numeral_name : Refuses "process P(){clock x;state A{x<=3x},B;init B;}system P;" (Misfit Left 32)
  -- `===` is `==` and `=`
  pub three_signs : Refuses "broadcast chan a,b;process P(){clock x;state A,B;init A;trans A->B{guard x===3;sync a!;};}system P;" (Misfit Left 76)
  -- a word where a name is wanted
  pub word : Refuses "process state(){state A;init A;}system state;" (Misfit Left 8)
  -- `A`, `B`, `tick` and `State` are names
  pub no_words : Accepts "broadcast chan tick;process A(){state B,State;init B;}system A;"
  -- a list has an item, and so has the place after a comma
  pub empty_invariant : Refuses "process P(){clock x;state A{},B;init B;}system P;" (Misfit Left 28)
  pub empty_guard : Refuses "broadcast chan a,b;process P(){clock x;state A,B;init A;trans A->B{guard ;sync a!;};}system P;" (Misfit Left 73)
  pub trailing_comma : Refuses "broadcast chan a,;process P(){state A;init A;}system P;" (Misfit Left 17)
  -- the value of a numeral counts
  pub zeros : Accepts "process P(){clock x;state A{x<=0001000},B;init B;}system P;"
  pub zeros_over : Refuses "process P(){clock x;state A{x<=0001001},B;init B;}system P;" (ConstantTooLarge Left 31)
  -- no wrap-around
  pub nines : Refuses "process P(){clock x;state A{x<=9999999999999999999999999999999999999999},B;init B;}system P;"
      (ConstantTooLarge Left 31)
  -- `00` is 0
  pub double_zero : Accepts "broadcast chan a,b;process P(){clock x;state A,B;init A;trans A->B{sync a!;assign x=00;};}system P;"
  -- 3 before 5
  pub long_undeclared : Refuses "process P(){state A;init nnnnnnnnnnnnnnnnnnnnnnnnnnnnnnnn;}system P;"
      (NameTooLong Left 25)
  -- where no name fits it is 2
  pub long_misfit : Refuses "process P nnnnnnnnnnnnnnnnnnnnnnnnnnnnnnnn(){state A;init A;}system P;" (Misfit Left 10)
  -- a clock named as the process
  pub one_name_space : Refuses "process P(){clock P;state A;init A;}system P;" (DeclaredBefore Left 18)
  -- clock 4 declared before is 4
  pub four_before_seven : Refuses "process P(){clock x,y,z,P;state A;init A;}system P;" (DeclaredBefore Left 24)
  -- comparison 5 with a constant over 1,000 is 7, at its lower place
  pub seven_before_six : Refuses "process P(){clock x;state A{x<=1&&x<=1&&x<=1&&x<=1&&x<=5000},B;init B;}system P;"
      (TooManyItems Left 52)
  -- comparison 5 of a 32-byte name is 3
  pub three_before_seven : Refuses
      "process P(){clock x;state A{x<=1&&x<=1&&x<=1&&x<=1&&nnnnnnnnnnnnnnnnnnnnnnnnnnnnnnnn<=1},B;init B;}system P;"
      (NameTooLong Left 52)
  -- comparison 5 of an undeclared clock is 5
  pub five_before_seven : Refuses "process P(){clock x;state A{x<=1&&x<=1&&x<=1&&x<=1&&y<=1},B;init B;}system P;"
      (UnknownName Left 52)
  -- the first name of an item over a limit is enough
  pub cut_item : Refuses "process P(){clock x,y,z,w" (TooManyItems Left 24)
  -- an invariant names a later location
  pub later_location : Refuses "process P(){clock x;state A{B<=3},B;init B;}system P;" (UnknownName Left 28)
  -- no mark, no 8
  pub no_mark : Refuses "broadcast chan a,b;process P(){clock x;state A,B;init A;trans A->B{sync a!;},B->A{sync a;};}system P;" (Misfit Left 88)
  -- a fault after the mark does not save it
  pub after_mark : Refuses "broadcast chan a,b;process P(){clock x;state A,B;init A;trans A->B{sync a!;},B->A{sync a?};}system P;" (OtherMark Left 87)
  -- `system` names a channel
  pub system_channel : Refuses "broadcast chan a;process P(){state A;init A;}system a;" (UnknownName Left 52)
  -- 3 before 5
  pub system_long : Refuses "process P(){state A;init A;}system nnnnnnnnnnnnnnnnnnnnnnnnnnnnnnnn;" (NameTooLong Left 35)

pub ties : Ties
unfolding opened
ties =
    record {
      the_end = refl;
      around = refl;
      form_feed = refl;
      after_last = refl;
      lone_mark = refl;
      parted = refl;
      numeral_name = refl;
      three_signs = refl;
      word = refl;
      no_words = refl;
      empty_invariant = refl;
      empty_guard = refl;
      trailing_comma = refl;
      zeros = refl;
      zeros_over = refl;
      nines = refl;
      double_zero = refl;
      long_undeclared = refl;
      long_misfit = refl;
      one_name_space = refl;
      four_before_seven = refl;
      seven_before_six = refl;
      three_before_seven = refl;
      five_before_seven = refl;
      cut_item = refl;
      later_location = refl;
      no_mark = refl;
      after_mark = refl;
      system_channel = refl;
      system_long = refl;
    }

-- strict comparisons: what an invariant may have, the rule on 0 and the longest token (SPECIFICATION 2.4, 3.1, 3.2, 4.5)
pub record Strict : Type 0 where
  -- 0 after `<` in an invariant, however it is written
  pub zero : Refuses "process P(){clock x;state A{x<0},B;init B;}system P;" (Misfit Left 30)
  pub zeros : Refuses "process P(){clock x;state A{x<000},B;init B;}system P;" (Misfit Left 30)
  pub second : Refuses "process P(){clock x;state A{x<=3&&x<0},B;init B;}system P;" (Misfit Left 36)
  -- 1 after it passes, and so does 0 after `<=`
  pub one : Accepts "process P(){clock x;state A{x<1},B;init B;}system P;"
  pub zero_at_most : Accepts "process P(){clock x;state A{x<=0},B;init B;}system P;"
  -- in a guard 0 passes
  pub guard_zero : Accepts "broadcast chan a;process P(){clock x;state A;init A;trans A->A{guard x<0&&x>0;sync a!;};}system P;"
  -- other signs in an invariant
  pub greater : Refuses "process P(){clock x;state A{x>3},B;init B;}system P;" (Misfit Left 29)
  pub at_least : Refuses "process P(){clock x;state A{x>=3},B;init B;}system P;" (Misfit Left 29)
  pub equal : Refuses "process P(){clock x;state A{x==3},B;init B;}system P;" (Misfit Left 29)
  -- `< =` is `<` and `=`
  pub parted : Refuses "process P(){clock x;state A{x< =3},B;init B;}system P;" (Misfit Left 31)
  -- a constant over the limit is 6 after `<` too
  pub large : Refuses "process P(){clock x;state A{x<1001},B;init B;}system P;" (ConstantTooLarge Left 30)
  pub largest : Accepts "process P(){clock x;state A{x<1000},B;init B;}system P;"

pub strict : Strict
unfolding opened
strict =
    record {
      zero = refl;
      zeros = refl;
      second = refl;
      one = refl;
      zero_at_most = refl;
      guard_zero = refl;
      greater = refl;
      at_least = refl;
      equal = refl;
      parted = refl;
      large = refl;
      largest = refl;
    }

-- tick lengths: code 24 before code 1 and all others, and codes 2 and 6 of a constant by its ticks (SPECIFICATION 4.7,
-- 13.4)
pub record Lengths : Type 0 where
  -- 24 below and above what is allowed
  pub none : RefusesAt 0 "" (tick_out_of_range 0)
  pub above : RefusesAt (suc longest_tick) "" (tick_out_of_range (suc longest_tick))
  pub before_one :
      read_text 0 (replicate (suc largest_text) (code " "))
      ≡ Err (tick_out_of_range 0)
  -- the largest constant at 2, 3 and 60,000 milliseconds, and the one above it
  pub halves : AcceptsAt 2 "process P(){clock x;state A{x<=2000},B;init B;}system P;"
  pub halves_over : RefusesAt 2 "process P(){clock x;state A{x<=2001},B;init B;}system P;" (ConstantTooLarge Left 31)
  pub thirds : AcceptsAt 3 "process P(){clock x;state A{x<=3001},B;init B;}system P;"
  pub thirds_over : RefusesAt 3 "process P(){clock x;state A{x<=3002},B;init B;}system P;" (ConstantTooLarge Left 31)
  pub longest : AcceptsAt longest_tick "process P(){clock x;state A{x<=60029999},B;init B;}system P;"
  pub longest_over : RefusesAt longest_tick "process P(){clock x;state A{x<=60030000},B;init B;}system P;"
      (ConstantTooLarge Left 31)
  pub nines : RefusesAt longest_tick
      "process P(){clock x;state A{x<=9999999999999999999999999999999999999999},B;init B;}system P;"
      (ConstantTooLarge Left 31)
  -- 0 ticks after `<` in an invariant: a third of a tick, not a half; 0 after `<=` and in a guard
  pub third_is_zero : RefusesAt 3 "process P(){clock x;state A{x<1},B;init B;}system P;" (Misfit Left 30)
  pub half_is_one : AcceptsAt 2 "process P(){clock x;state A{x<1},B;init B;}system P;"
  pub two_thirds : AcceptsAt 3 "process P(){clock x;state A{x<2},B;init B;}system P;"
  pub at_most_third : AcceptsAt 3 "process P(){clock x;state A{x<=1},B;init B;}system P;"

pub lengths : Lengths
unfolding opened
lengths =
    record {
      none = refl;
      above = refl;
      before_one = refl;
      halves = refl;
      halves_over = refl;
      thirds = refl;
      thirds_over = refl;
      longest = refl;
      longest_over = refl;
      nines = refl;
      third_is_zero = refl;
      half_is_one = refl;
      two_thirds = refl;
      at_most_third = refl;
    }

-- assignments: any numeral fits, 6 is judged at each of them by its ticks, and 2 where no numeral stands (SPECIFICATION
-- 3.1, 4.3, 4.5, 4.7)
pub record Assigning : Type 0 where
  pub largest : Accepts "broadcast chan a,b;process P(){clock x;state A,B;init A;trans A->B{sync a!;assign x=1000;};}system P;"
  pub over : Refuses "broadcast chan a,b;process P(){clock x;state A,B;init A;trans A->B{sync a!;assign x=1001;};}system P;"
      (ConstantTooLarge Left 84)
  pub zeros : Accepts "broadcast chan a,b;process P(){clock x;state A,B;init A;trans A->B{sync a!;assign x=00001000;};}system P;"
  pub nines : Refuses "broadcast chan a,b;process P(){clock x;state A,B;init A;trans A->B{sync a!;assign x=9999999999999999999999999999999999999999;};}system P;" (ConstantTooLarge Left 84)
  -- a repeated clock; also where the value is overridden, a constant over the limit is 6
  pub repeated : Accepts "broadcast chan a,b;process P(){clock x;state A,B;init A;trans A->B{sync a!;assign x=5,x=0;};}system P;"
  pub overridden_over : Refuses "broadcast chan a,b;process P(){clock x;state A,B;init A;trans A->B{sync a!;assign x=1001,x=0;};}system P;"
      (ConstantTooLarge Left 84)
  pub second_over : Refuses "broadcast chan a,b;process P(){clock x;state A,B;init A;trans A->B{sync a!;assign x=0,x=1001;};}system P;"
      (ConstantTooLarge Left 88)
  -- at 2, 3 and 60,000 milliseconds
  pub halves : AcceptsAt 2 "broadcast chan a,b;process P(){clock x;state A,B;init A;trans A->B{sync a!;assign x=2000;};}system P;"
  pub halves_over : RefusesAt 2 "broadcast chan a,b;process P(){clock x;state A,B;init A;trans A->B{sync a!;assign x=2001;};}system P;"
      (ConstantTooLarge Left 84)
  pub thirds : AcceptsAt 3 "broadcast chan a,b;process P(){clock x;state A,B;init A;trans A->B{sync a!;assign x=3001;};}system P;"
  pub thirds_over : RefusesAt 3 "broadcast chan a,b;process P(){clock x;state A,B;init A;trans A->B{sync a!;assign x=3002;};}system P;"
      (ConstantTooLarge Left 84)
  pub longest : AcceptsAt longest_tick "broadcast chan a,b;process P(){clock x;state A,B;init A;trans A->B{sync a!;assign x=60029999;};}system P;"
  pub longest_over : RefusesAt longest_tick "broadcast chan a,b;process P(){clock x;state A,B;init A;trans A->B{sync a!;assign x=60030000;};}system P;" (ConstantTooLarge Left 84)
  -- no numeral, another sign, no item behind a comma, no clock
  pub no_numeral : Refuses "broadcast chan a,b;process P(){clock x;state A,B;init A;trans A->B{sync a!;assign x=y;};}system P;" (Misfit Left 84)
  pub other_sign : Refuses "broadcast chan a,b;process P(){clock x;state A,B;init A;trans A->B{sync a!;assign x==1;};}system P;" (Misfit Left 83)
  pub comma : Refuses "broadcast chan a,b;process P(){clock x;state A,B;init A;trans A->B{sync a!;assign x=1,;};}system P;" (Misfit Left 86)
  pub location : Refuses "broadcast chan a,b;process P(){clock x;state A,B;init A;trans A->B{sync a!;assign A=1;};}system P;" (UnknownName Left 82)

pub assigning : Assigning
unfolding opened
assigning =
    record {
      largest = refl;
      over = refl;
      zeros = refl;
      nines = refl;
      repeated = refl;
      overridden_over = refl;
      second_over = refl;
      halves = refl;
      halves_over = refl;
      thirds = refl;
      thirds_over = refl;
      longest = refl;
      longest_over = refl;
      no_numeral = refl;
      other_sign = refl;
      comma = refl;
      location = refl;
    }
