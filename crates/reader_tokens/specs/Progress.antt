-- Every token but the end takes a byte or more of the text: the reason why reading ends.
use Rattle.std.specs.Prelude.{◌≡◌, Bool, true, false, cond, List, [], ◌∷◌, eqb, ltb, length, drop}
use Rattle.std.proofs.Math.Path.{refl}
use Rattle.std.proofs.Math.Bool.{and-false}
use Prim.Native.Nat.{ℕ, max, ◌+◌, ◌≤◌, ◌<◌}
use Rattle.std.proofs.Common.{arith, drop-cons, ltb-true, ltb-false, lt-ltb, eqb-true}
use Rattle.std.proofs.Math.ListN.{get_or, length-drop, get_or-eq_default}
use Rattle.reader_tokens.specs.Scan.{member, is_space, is_letter, is_digit, is_part, run, past}
use Rattle.reader_tokens.specs.Kinds.{byte_values, end, stray}
use Rattle.reader_tokens.specs.Tokens.{is_pair, singles, is_single, mark_kind, mark_length, mark_at, word_at, token_from, token_at}
use Rattle.reader_tokens.specs.declared.Token.{Token}

-- the token t, looked for at or after p, ends after p and within the text
pub record Takes (s : List ℕ) (p : ℕ) (t : Token) : Type 0 where
  pub after : p < t.end
  pub within : t.end ≤ length s

run_within : {A : Type 0} (p : A → Bool) (s : List A) → run p s ≤ length s
unfolding run
run_within p [] = omega arith
run_within p (b ∷ s) = by (p b) refl (run_within p s)
  where
    by : (t : Bool) → p b ≡ t → run p s ≤ length s → run p (b ∷ s) ≤ length (b ∷ s)
    by true e h = rw e (omega arith)
    by false e h = rw e (omega arith)

pub past_from : {A : Type 0} (p : A → Bool) (s : List A) (at : ℕ) → at ≤ past p s at
unfolding past
past_from p s at = omega arith

module _ {A : Type 0} (p : A → Bool) (s : List A) (at : ℕ) (d : A) (h : at < length s) (e : p (get_or s at d) ≡ true)
  where
    past_after : at < past p s at
    unfolding run past
    past_after = rw (drop-cons s at d, e) (omega arith)

    past_within : past p s at ≤ length s
    unfolding past
    past_within = omega (arith, run_within p (drop at s), length-drop at s)

largest : List ℕ → ℕ
largest [] = 0
largest (k ∷ ks) = max k (largest ks)

member_most : (a : ℕ) (ks : List ℕ) → member a ks ≡ true → a ≤ largest ks
unfolding largest
member_most a [] e = let never : ◌≡◌ {A = ℕ} 0 1 = cc in absurd (omega arith)
member_most a (k ∷ ks) e = by (eqb a k) refl (λ h. member_most a ks h)
  where
    by : (t : Bool) → eqb a k ≡ t → (member a ks ≡ true → a ≤ largest ks) → a ≤ max k (largest ks)
    by true q f = omega (arith, eqb-true a k q)
    by false q f = omega (arith, f (rw q at e))

single_small : (a : ℕ) → is_single a ≡ true → a < byte_values
unfolding is_single largest
single_small a h = omega (arith, member_most a singles h)

-- a mark before no byte, which is read as 0, has one byte
mark_alone : (a : ℕ) → mark_length (mark_kind a 0) ≡ 1
unfolding mark_length mark_kind is_pair
mark_alone a = simp and-false (by (is_single a) refl)
  where
    by : (t : Bool) → is_single a ≡ t → ◌≡◌ {A = ℕ} (cond (ltb (cond (is_single a) a stray) byte_values) 1 2) 1
    by true e = rw (e, lt-ltb a byte_values (single_small a e))
    by false e = rw e

one_or_two : (k : ℕ) → (0 < mark_length k) × (mark_length k ≤ 2)
unfolding mark_length
one_or_two k = by (ltb k byte_values) refl
  where
    by : (t : Bool) → ltb k byte_values ≡ t → (0 < mark_length k) × (mark_length k ≤ 2)
    by true e = rw e (omega arith, omega arith)
    by false e = rw e (omega arith, omega arith)

module _ (s : List ℕ) (p : ℕ) (h : p < length s) where
  mark_takes : Takes s p (mark_at s p)
  unfolding mark_at
  mark_takes = by (ltb (p + 1) (length s)) refl
    where
      second : ℕ
      second = get_or s (p + 1) 0

      sizes : (0 < mark_length (mark_kind (get_or s p 0) second)) × (mark_length (mark_kind (get_or s p 0) second) ≤ 2)
      sizes = one_or_two (mark_kind (get_or s p 0) second)

      last : length s ≤ p + 1 → mark_length (mark_kind (get_or s p 0) second) ≡ 1
      last l = rw (get_or-eq_default s 0 l) (mark_alone (get_or s p 0))

      by : (t : Bool) → ltb (p + 1) (length s) ≡ t → Takes s p (mark_at s p)
      by true e = record {
        after = omega (arith, sizes.0);
        within =
            omega (arith, sizes.1, ltb-true (p + 1) (length s) e);
      }
      by false e = record {
        after = omega (arith, sizes.0);
        within =
            omega (arith, last (ltb-false (p + 1) (length s) e));
      }

  word_takes : is_letter (get_or s p 0) ≡ true → Takes s p (word_at s p)
  unfolding word_at is_part
  word_takes e = record { after = past_after is_part s p 0 h (rw e); within = past_within is_part s p 0 h (rw e) }

-- the token that starts at p, where it is not the end
pub token_from_takes : (s : List ℕ) (p : ℕ) → eqb (token_from s p).kind end ≡ false → Takes s p (token_from s p)
unfolding token_from
token_from_takes s p n = by (ltb p (length s)) refl (is_letter (get_or s p 0)) refl (is_digit (get_or s p 0)) refl n
  where
    by :
        (a : Bool) → ltb p (length s) ≡ a → (b : Bool) → is_letter (get_or s p 0) ≡ b → (c : Bool) → is_digit (get_or s p 0)
        ≡ c →
        eqb (token_from s p).kind end ≡ false → Takes s p (token_from s p)
    by false e b f c g n = let z : ◌≡◌ {A = Bool} true false = rw e at n in let never : ◌≡◌ {A = ℕ} 0 1 = cc in
        absurd (omega arith)
    by true e true f c g n = rw (e, f) (word_takes s p (ltb-true p (length s) e) f)
    by true e false f true g n =
        let h : p < length s = ltb-true p (length s) e in
        rw (e, f, g) (record { after = past_after is_digit s p 0 h g; within = past_within is_digit s p 0 h g })
    by true e false f false g n = rw (e, f, g) (mark_takes s p (ltb-true p (length s) e))

-- the token at or after `at`, where it is not the end
pub token_takes : (s : List ℕ) (at : ℕ) → eqb (token_at s at).kind end ≡ false → Takes s at (token_at s at)
unfolding token_at
token_takes s at n =
    let t : Takes s (past is_space s at) (token_from s (past is_space s at)) = token_from_takes s (past is_space s at) n
    in
    record { after = omega (arith, past_from is_space s at, t.after); within = t.within }
