-- A token that is read as a name is a name.
use Rattle.std.specs.Prelude.{◌≡◌, refl, Bool, true, false, List, [], ◌∷◌, ℕ, suc, ◌+◌, ◌-◌, ◌≤◌, ◌<◌, eqb, ltb, length, take, drop, get_or, Result, IfOk}
use Rattle.std.proofs.Math.Path.{sym, ap₂}
use Rattle.std.proofs.Common.{ap, ◌∙◌, take-append-drop, drop-cons, get_or-take, length-take-le, eqb-true, ltb-true, ltb-false}
use native.Mathlib.Omega.{arith}
use Rattle.std.proofs.Math.Seq.{get_or-drop}
use Rattle.reader_tokens.specs.Kinds as kinds
use Rattle.reader_tokens.specs.Scan.{is_space, is_letter, is_digit, is_part, run, past}
use Rattle.reader_tokens.specs.Tokens.{words, word_from, word_kind, is_pair, is_single, mark_kind, mark_at, word_at, token_from, token_at}
use Rattle.reader_tokens.specs.declared.Token.{Token}
use Rattle.limits.specs.Limits.{largest_name}
use Rattle.reader_parts.specs.declared.Fault.{Fault}
use Rattle.reader_parts.specs.declared.NameRead.{NameRead}
use Rattle.reader_parts.specs.Stages.{name_of, name_next}
use Rattle.reader_formed.proofs.Cases.{split, never}
use Rattle.written.proofs.Good.{IsName}
use Rattle.written.proofs.Scanned.{word_front}
use Rattle.pairing.specs.Channels.{spelling}

-- the bytes of a run pass its test, and are as many
run_taken : (p : ℕ → Bool) (l : List ℕ) → run p (take (run p l) l) ≡ run p l
unfolding run
run_taken p [] = refl
run_taken p (b ∷ l) = by (run_taken p l) (p b) refl
  where
    by : run p (take (run p l) l) ≡ run p l → (t : Bool) → p b ≡ t
        → run p (take (run p (b ∷ l)) (b ∷ l)) ≡ run p (b ∷ l)
    by again true e = rw (e, e, again)
    by again false e = rw e

run_short : (p : ℕ → Bool) (l : List ℕ) → run p l ≤ length l
unfolding run
run_short p [] = omega arith
run_short p (b ∷ l) = by (run_short p l) (p b) refl
  where
    by : run p l ≤ length l → (t : Bool) → p b ≡ t → run p (b ∷ l) ≤ suc (length l)
    by again true e = rw e (omega arith)
    by again false e = rw e (omega arith)

-- no mark has the kind of a name
mark_no_name : (a b : ℕ) → mark_kind a b ≡ kinds.name → ⊥
unfolding mark_kind is_pair is_single
mark_no_name a b = split (λ (k : ℕ). k ≡ kinds.name → ⊥) (is_pair a b)
    (λ p e. let x : a ≡ 0 = omega arith in let y : b ≡ 2 = omega arith in never (sym p ∙ ap₂ is_pair x y))
    (λ _. split (λ (k : ℕ). k ≡ kinds.name → ⊥) (is_single a)
    (λ p e. never (sym p ∙ ap is_single e))
    (λ _ e. omega arith))

-- what a token that starts at q and has the kind of a name is
record NameToken (s : List ℕ) (q : ℕ) (t : Token) : Type 0 where
  inside : q < length s
  letter : is_letter (get_or s q 0) ≡ true
  starts : t.place ≡ q
  ends : t.end ≡ past is_part s q
  no_word : word_kind (past is_part s q - q) (drop q s) ≡ kinds.name

name_token : (s : List ℕ) (q : ℕ) → (token_from s q).kind ≡ kinds.name → NameToken s q (token_from s q)
unfolding token_from word_at mark_at
name_token s q = by (ltb q (length s)) refl (is_letter (get_or s q 0)) refl (is_digit (get_or s q 0)) refl
  where
    by : (a : Bool) → ltb q (length s) ≡ a → (b : Bool) → is_letter (get_or s q 0) ≡ b → (c : Bool)
        → is_digit (get_or s q 0) ≡ c
        → (token_from s q).kind ≡ kinds.name → NameToken s q (token_from s q)
    by false e b f c g k = let z : ◌≡◌ {A = ℕ} 0 2 = rw e at k in absurd (omega arith)
    by true e true f c g k =
        let z : word_kind (past is_part s q - q) (drop q s) ≡ kinds.name = rw (e, f) at k in
        rw (e, f) (record { inside = ltb-true q (length s) e; letter = f; starts = refl; ends = refl; no_word = z })
    by true e false f true g k = let z : ◌≡◌ {A = ℕ} 3 2 = rw (e, f, g) at k in absurd (omega arith)
    by true e false f false g k =
        absurd (mark_no_name (get_or s q 0) (get_or s (q + 1) 0) (rw (e, f, g) at k))

-- the bytes of its run are a name
module _ (s : List ℕ) (q : ℕ) (inside : q < length s) (letter : is_letter (get_or s q 0) ≡ true) where
  abbrev parts : ℕ
  parts = run is_part (drop q s)

  parts_some : 0 < parts
  unfolding run is_part
  parts_some = rw (drop-cons s q 0 inside, letter) (omega arith)

  parts_length : length (take parts (drop q s)) ≡ parts
  parts_length = length-take-le parts (drop q s) (run_short is_part (drop q s))

  run_name : word_kind parts (drop q s) ≡ kinds.name → parts ≤ largest_name → IsName (take parts (drop q s))
  unfolding word_kind
  run_name no_word few = record {
    letter =
        let z : q + 0 ≡ q = omega arith in
        rw (get_or-take parts (drop q s) 0 0 parts_some, get_or-drop q s 0 0, z) letter;
    parts = run_taken is_part (drop q s) ∙ sym parts_length;
    no_word =
        sym (word_front kinds.broadcast words (take parts (drop q s)) (drop parts (drop q s)))
        ∙ ap₂ (word_from kinds.broadcast words) parts_length (take-append-drop parts (drop q s))
        ∙ no_word;
    few = omega (arith, parts_length);
  }

-- a name that is read is a name
of_name : (s : List ℕ) (q : ℕ) → (token_from s q).kind ≡ kinds.name
    → (token_from s q).end - (token_from s q).place ≤ largest_name
    → IsName (take ((token_from s q).end - (token_from s q).place) (drop (token_from s q).place s))
unfolding past
of_name s q k few =
    let n : NameToken s q (token_from s q) = name_token s q k in
    let size : (token_from s q).end - (token_from s q).place ≡ run is_part (drop q s) =
    omega (arith, n.ends, n.starts) in
    let z : past is_part s q - q ≡ run is_part (drop q s) = omega arith in
    rw (size, n.starts) (run_name s q n.inside n.letter (rw z at n.no_word) (rw size at few))

named : (s : List ℕ) (t : Token)
    → (t.kind ≡ kinds.name → t.end - t.place ≤ largest_name → IsName (take (t.end - t.place) (drop t.place s)))
    → IfOk (name_of t) (λ r. IsName (spelling s r.name))
unfolding name_of
named s t f =
    split P (eqb t.kind kinds.name)
    (λ e. split P (ltb largest_name (t.end - t.place))
    (λ _. tt)
    (λ l. f (eqb-true t.kind kinds.name e) (ltb-false largest_name (t.end - t.place) l)))
    (λ _. tt)
  where
    P : Result NameRead Fault → Type 0
    P r = IfOk r (λ n. IsName (spelling s n.name))

pub name_is : (s : List ℕ) (p : ℕ) → IfOk (name_next s p) (λ r. IsName (spelling s r.name))
unfolding name_next token_at
name_is s p = named s (token_at s p) (of_name s (past is_space s p))
