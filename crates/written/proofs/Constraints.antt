-- Guards and invariants that are written are read back.
use Rattle.std.specs.Prelude.{◌≡◌, Bool, T, IsOkAnd, eqb, length, drop}
use Rattle.std.proofs.Math.Path.{refl, sym, ap}
use Rattle.std.proofs.Common.{◌∙◌, ltb→lt}
use Rattle.std.proofs.Math.Bool.{true, false}
use mathlib.Core.List.{List, [], ◌∷◌, ◌++◌, append_assoc}
use Prim.Native.Nat.{ℕ, zero, suc, ◌+◌, ◌≤◌, ◌<◌}
use native.Mathlib.Omega.{arith}
use Rattle.std.proofs.Math.ListN.{length-set}
use borrow.Author.Tests.{eq-eqb, le-ltb}
use Rattle.reader_tokens.specs.Kinds as kinds
use Rattle.reader_tokens.specs.Scan.{bytes, numeral_value}
use Rattle.limits.specs.Limits.{clock_limit, comparison_limit, largest_constant, shortest_tick}
use Rattle.byte_slices.specs.Decimal.{decimal}
use Rattle.reader_record.specs.Record.{no_comparison, comparison}
use Rattle.reader_record.specs.Formed.{in_invariant, FormedConstraint}
use Rattle.reader_record.specs.declared.Name.{Name}
use Rattle.reader_record.specs.declared.Sign.{Sign}
use Rattle.reader_record.specs.declared.Sign.TheVariants.{AtMost, AtLeast, Equal, Less, Greater}
use Rattle.reader_record.specs.declared.Comparison.{Comparison}
use Rattle.reader_record.specs.declared.Constraint.{Constraint}
use Rattle.reader_parts.specs.Slots.{first_clock}
use Rattle.reader_parts.specs.Names.{slot_of, use_name}
use Rattle.reader_constraints.specs.declared.Amount.{Amount}
use Rattle.reader_constraints.specs.declared.SignRead.{SignRead}
use Rattle.reader_constraints.specs.declared.ComparisonRead.{ComparisonRead}
use Rattle.reader_constraints.specs.declared.ConstraintRead.{ConstraintRead}
use Rattle.reader_constraints.specs.Constraints.{least_after, least_constant, constant_of, constant as constant_next, sign_of, sign_next, comparison_next, blank_constraint, with_comparison, constraint_from, constraint, optional, guard, invariant}
use Rattle.reader_constraints.proofs.Ticks.{one_millisecond}
use Rattle.reader_formed.proofs.Cases.{stored}
use Rattle.written.specs.Spaced.{Tokens, after_token, later_items, part_tokens, numbered_items}
use Rattle.written.specs.Written.{clock_called, sign_bytes, comparison_tokens, constraint_tokens}
use Rattle.written.proofs.Tokens.{Fine, Ahead, Stands, token_stands, tokens_after, Gapped, gapped}
use Rattle.written.proofs.Scanned.{gap_digit}
use Rattle.written.proofs.Numbers.{decimal_fine, decimal_value}
use Rattle.written.proofs.Words.{at_most_fine, at_least_fine, equal_fine, less_fine, greater_fine, both_fine, opens_fine, closes_fine, guard_fine, semicolon_fine}
use Rattle.written.proofs.Steps.{taken, ahead_is, then_read}
use Rattle.written.proofs.Slots.{Uses, name_used}
use Rattle.written.proofs.Good.{IsName}
use Rattle.written.proofs.Names.{name_fine}
use Rattle.written.proofs.Same.{Spells, SameConstraint}

-- a constant is read
pub record AmountReads (s : List ℕ) (ws : Tokens) (n : ℕ) (a : Amount) : Type 0 where
  pub before : Ahead s a.end ws
  pub is : a.value ≡ n

pub constant_read :
    {s : List ℕ} {n : ℕ} {ws : Tokens} {p : ℕ} (least : ℕ) → least ≤ n → n ≤ largest_constant
    → Ahead s p (decimal n ∷ ws) → IsOkAnd (constant_next shortest_tick least s p) (AmountReads s ws n)
unfolding constant_next constant_of
constant_read {s} {n} {ws} {p} least l h a =
    let t : Stands s p (decimal n) kinds.numeral ws = token_stands (decimal_fine n) a in
    let g : Gapped (after_token ws) = gapped ws in
    let v : numeral_value 0 (drop t.place s) ≡ n =
    rw (t.there, g.is) (decimal_value n g.byte g.rest (gap_digit g.byte g.gap)) in
    rw (t.token_is, v, one_millisecond n, le-ltb largest_constant n h, le-ltb n least l)
    (record { before = tokens_after t; is = refl })

-- the sign may stand before the constant: in a guard every one may (SPECIFICATION 3.2)
abbrev pub Allowed : Bool → Sign → ℕ → Type 0
Allowed true x b = T (in_invariant x b)
Allowed false x b = Unit {0}

-- then the constant is no less than the least that may stand after the sign
least_allowed : (inv : Bool) (x : Sign) (b : ℕ) → Allowed inv x b → least_constant inv x ≤ b
unfolding least_constant least_after in_invariant
least_allowed false x b l = omega arith
least_allowed true AtMost b l = omega arith
least_allowed true AtLeast b l = absurd l
least_allowed true Equal b l = absurd l
least_allowed true Less b l = ltb→lt 0 b l
least_allowed true Greater b l = absurd l

-- a sign is read

pub record SignReads (s : List ℕ) (ws : Tokens) (x : Sign) (a : SignRead) : Type 0 where
  pub before : Ahead s a.end ws
  pub is : a.sign ≡ x

pub sign_read :
    {s : List ℕ} {ws : Tokens} {p : ℕ} (inv : Bool) (x : Sign) (b : ℕ) → Allowed inv x b
    → Ahead s p (sign_bytes x ∷ ws) → IsOkAnd (sign_next s p inv) (SignReads s ws x)
unfolding sign_bytes sign_next sign_of in_invariant
sign_read {s} {ws} {p} inv AtMost b l a =
    let t : Stands s p (bytes "<=") kinds.at_most ws = token_stands at_most_fine a in
    rw t.token_is (record { before = tokens_after t; is = refl })
sign_read {s} {ws} {p} inv Less b l a =
    let t : Stands s p (bytes "<") kinds.less ws = token_stands less_fine a in
    rw t.token_is (record { before = tokens_after t; is = refl })
sign_read {s} {ws} {p} true AtLeast b l q = absurd l
sign_read {s} {ws} {p} false AtLeast b l a =
    let t : Stands s p (bytes ">=") kinds.at_least ws = token_stands at_least_fine a in
    rw t.token_is (record { before = tokens_after t; is = refl })
sign_read {s} {ws} {p} true Greater b l q = absurd l
sign_read {s} {ws} {p} false Greater b l a =
    let t : Stands s p (bytes ">") kinds.greater ws = token_stands greater_fine a in
    rw t.token_is (record { before = tokens_after t; is = refl })
sign_read {s} {ws} {p} true Equal b l q = absurd l
sign_read {s} {ws} {p} false Equal b l a =
    let t : Stands s p (bytes "==") kinds.equal ws = token_stands equal_fine a in
    rw t.token_is (record { before = tokens_after t; is = refl })

-- the names of one kind are declared: each is found by its number
pub record KindKnown (s : List ℕ) (names : List Name) (first count : ℕ) (word : ℕ → List ℕ) : Type 0 where
  pub name : (i : ℕ) → i < count → IsName (word i)
  pub slot : (i : ℕ) → i < count → (n : Name) → Spells s n (word i) → slot_of s names n ≡ first + i

pub known_used : {s : List ℕ} {names : List Name} {first count : ℕ} {word : ℕ → List ℕ}
    → KindKnown s names first count word
    → (limit i : ℕ) → i < count → count ≤ limit → {ws : Tokens} {p : ℕ} → Ahead s p (word i ∷ ws)
    → IsOkAnd (use_name s p names first limit false) (Uses s ws i)
known_used {s} {names} {first} {count} {word} k limit i h l b =
    let m : IsName (word i) = k.name i h in
    name_used names (name_fine (word i) m) m.few first limit i (omega arith) (k.slot i h) b

pub record ComparisonReads (s : List ℕ) (ws : Tokens) (x : Comparison) (r : ComparisonRead) : Type 0 where
  pub before : Ahead s r.end ws
  pub is : r.comparison ≡ x

pub record ConstraintReads (s : List ℕ) (ws : Tokens) (g : Constraint) (r : ConstraintRead) : Type 0 where
  pub before : Ahead s r.end ws
  pub same : SameConstraint g r.constraint

-- the first i comparisons of g are read
record Partly (g : Constraint) (i : ℕ) (c : Constraint) : Type 0 where
  size : length c.comparisons ≡ comparison_limit
  count : c.count ≡ i
  each : (j : ℕ) → j < i → comparison c j ≡ comparison g j

module _ {s : List ℕ} {names : List Name} {clocks : ℕ} (u : ℕ)
    (known : KindKnown s names first_clock clocks (clock_called u))
    (few : clocks ≤ clock_limit) where
  comparison_read :
      (inv : Bool) (x : Comparison) → x.clock < clocks → x.bound ≤ largest_constant → Allowed inv x.sign x.bound
      → (ws : Tokens) {p : ℕ} → Ahead s p (comparison_tokens u x ++ ws)
      → IsOkAnd (comparison_next shortest_tick s p names inv false) (ComparisonReads s ws x)
  unfolding comparison_tokens comparison_next
  comparison_read inv x h l a ws b =
      then_read _ _ (Uses s (sign_bytes x.sign ∷ decimal x.bound ∷ ws) x.clock) (ComparisonReads s ws x)
      (known_used known clock_limit x.clock h few b)
      (λ clock c. then_read _ _ (SignReads s (decimal x.bound ∷ ws) x.sign) (ComparisonReads s ws x)
      (sign_read inv x.sign x.bound a c.before)
      (λ read g. then_read _ _ (AmountReads s ws x.bound) (ComparisonReads s ws x)
      (constant_read (least_constant inv read.sign) (rw g.is (least_allowed inv x.sign x.bound a)) l g.before)
      (λ bound n. record { before = n.before; is = rw (c.number_is, g.is, n.is) })))

  module _ (inv : Bool) {closing : List ℕ} {k : ℕ} (f : Fine closing k) (other : eqb k kinds.both ≡ false)
      (g : Constraint)
      (formed : FormedConstraint clocks g)
      (allowed : (i : ℕ) → i < g.count → Allowed inv (comparison g i).sign (comparison g i).bound) where
    -- one comparison more
    partly_more : (i : ℕ) (c : Constraint) (x : Comparison) → i < g.count → x ≡ comparison g i → Partly g i c
        → Partly g (suc i) (with_comparison c x)
    unfolding with_comparison
    partly_more i c x h e p = record {
      size = length-set c.comparisons c.count x ∙ p.size;
      count = omega (arith, p.count);
      each = λ j l. stored (λ (y : Comparison). y ≡ comparison g j) c.comparisons c.count j x no_comparison
          (omega (arith, p.size, p.count, formed.few))
          (λ q. e ∙ ap (comparison g) (sym (q ∙ p.count)))
          (λ q. p.each j (omega (arith, p.count)));
    }

    constraint_from_read : (m i room : ℕ) → i + suc m ≡ g.count → m < room → (c : Constraint) → Partly g i c
        → (ws : Tokens) {p : ℕ}
        → Ahead s p (comparison_tokens u (comparison g i)
        ++ (later_items (bytes "&&") closing
        (numbered_items (λ j. comparison_tokens u (comparison g j)) (suc i) m) ++ ws))
        → IsOkAnd (constraint_from shortest_tick room s names inv k p c) (ConstraintReads s ws g)
    unfolding constraint_from later_items numbered_items
    constraint_from_read m i zero e h c p ws b = absurd (omega arith)
    constraint_from_read zero i (suc room) e h c p ws b =
        let l : i < g.count = omega arith in
        then_read _ _ (ComparisonReads s (closing ∷ ws) (comparison g i)) (ConstraintReads s ws g)
        (comparison_read inv (comparison g i) (formed.clock i l) (formed.bound i l) (allowed i l) (closing ∷ ws) b)
        (λ x r.
        let q : Partly g (suc i) (with_comparison c x.comparison) = partly_more i c x.comparison l r.is p in
        rw (ahead_is f kinds.both r.before, other)
        (then_read _ _ (λ z. Ahead s z ws) (ConstraintReads s ws g) (taken f r.before)
        (λ z d. record {
          before = d;
          same = record { count = omega (arith, q.count); each = λ j a. q.each j (omega arith) };
        })))
    constraint_from_read (suc m) i (suc room) e h c p ws b =
        let l : i < g.count = omega arith in
        let more : Tokens =
        later_items (bytes "&&") closing (numbered_items (λ j. comparison_tokens u (comparison g j)) (suc (suc i)) m) in
        let rest : Tokens = (comparison_tokens u (comparison g (suc i)) ++ more) ++ ws in
        then_read _ _ (ComparisonReads s (bytes "&&" ∷ rest) (comparison g i)) (ConstraintReads s ws g)
        (comparison_read inv (comparison g i) (formed.clock i l) (formed.bound i l) (allowed i l) (bytes "&&" ∷ rest) b)
        (λ x r. rw (ahead_is both_fine kinds.both r.before)
        (then_read _ _ (λ z. Ahead s z rest) (ConstraintReads s ws g) (taken both_fine r.before)
        (λ z d. constraint_from_read m (suc i) room (omega arith) (omega arith) (with_comparison c x.comparison)
        (partly_more i c x.comparison l r.is p) ws (rw append_assoc at d))))

    -- comparisons between an opening and a closing token, or nothing
    optional_constraint_read : (n : ℕ) → g.count ≡ n → {opening : List ℕ} {word : ℕ} → Fine opening word
        → {w : List ℕ} {j : ℕ} → Fine w j → eqb j word ≡ false → (ws : Tokens) {p : ℕ}
        → Ahead s p
        (part_tokens (opening ∷ []) (bytes "&&") closing
        (numbered_items (λ i. comparison_tokens u (comparison g i)) 0 n) ++ (w ∷ ws))
        → IsOkAnd (optional shortest_tick word inv k s p names) (ConstraintReads s (w ∷ ws) g)
    unfolding part_tokens numbered_items blank_constraint constraint optional
    optional_constraint_read zero e {word = word} fo fw apart ws b =
        rw (ahead_is fw word b, apart)
        (record { before = b; same = record { count = sym e; each = λ i l. absurd (omega arith) } })
    optional_constraint_read (suc m) e {word = word} fo {w} fw apart ws b =
        let first : Tokens = comparison_tokens u (comparison g 0)
        ++ later_items (bytes "&&") closing (numbered_items (λ i. comparison_tokens u (comparison g i)) 1 m) in
        rw (ahead_is fo word b, eq-eqb word word refl)
        (then_read _ _ (λ q. Ahead s q (first ++ (w ∷ ws))) (ConstraintReads s (w ∷ ws) g) (taken fo b)
        (λ q a. constraint_from_read m 0 comparison_limit (omega arith)
        (omega (arith, formed.few)) blank_constraint none (w ∷ ws) (rw append_assoc at a)))
      where
        none : Partly g 0 blank_constraint
        none = record { size = refl; count = refl; each = λ j l. absurd (omega arith) }

  pub guard_read : (g : Constraint) → FormedConstraint clocks g → {w : List ℕ} {j : ℕ} → Fine w j
      → eqb j kinds.guard ≡ false → (ws : Tokens) {p : ℕ}
      → Ahead s p (constraint_tokens (bytes "guard") (bytes ";") u g ++ (w ∷ ws))
      → IsOkAnd (guard shortest_tick s p names) (ConstraintReads s (w ∷ ws) g)
  unfolding constraint_tokens
  guard_read g formed fw apart ws b =
      optional_constraint_read false semicolon_fine refl g formed (λ i l. tt) g.count refl guard_fine fw apart ws b

  pub invariant_read : (g : Constraint) → FormedConstraint clocks g
      → ((i : ℕ) → i < g.count → T (in_invariant (comparison g i).sign (comparison g i).bound))
      → {w : List ℕ} {j : ℕ} → Fine w j
      → eqb j kinds.opens ≡ false → (ws : Tokens) {p : ℕ}
      → Ahead s p (constraint_tokens (bytes "{") (bytes "}") u g ++ (w ∷ ws))
      → IsOkAnd (invariant shortest_tick s p names) (ConstraintReads s (w ∷ ws) g)
  unfolding constraint_tokens
  invariant_read g formed upper fw apart ws b =
      optional_constraint_read true closes_fine refl g formed upper g.count refl opens_fine fw apart ws b
