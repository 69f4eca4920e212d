-- A token that is a name has a byte or more and ends within the text.
use Rattle.std.specs.Prelude.{◌≡◌, refl, Bool, true, false, List, ℕ, ◌≤◌, ◌<◌, ltb, eqb, length, get_or}
use Rattle.std.proofs.Common.{arith}
use Rattle.reader_tokens.specs.Kinds as kinds
use Rattle.reader_tokens.specs.Scan.{is_letter, is_digit, is_space, past}
use Rattle.reader_tokens.specs.Tokens.{mark_at, word_at, token_from, token_at}
use Rattle.reader_tokens.specs.Progress.{Takes, token_from_takes}
use Rattle.reader_tokens.specs.declared.Token.{Token}

pub record Spans (s : List ℕ) (t : Token) : Type 0 where
  pub some : t.place < t.end
  pub inside : t.end ≤ length s

-- a token starts where its first byte is
place_from : (s : List ℕ) (p : ℕ) → (token_from s p).place ≡ p
unfolding token_from mark_at word_at
place_from s p = by (ltb p (length s)) refl (is_letter (get_or s p 0)) refl (is_digit (get_or s p 0)) refl
  where
    by :
        (a : Bool) → ltb p (length s) ≡ a → (b : Bool) → is_letter (get_or s p 0) ≡ b → (c : Bool) → is_digit (get_or s p 0)
        ≡ c → (token_from s p).place ≡ p
    by false e b f c g = rw e
    by true e true f c g = rw (e, f)
    by true e false f true g = rw (e, f, g)
    by true e false f false g = rw (e, f, g)

pub name_spans : (s : List ℕ) (at : ℕ) → (token_at s at).kind ≡ kinds.name → Spans s (token_at s at)
unfolding token_at
name_spans s at e =
    let q : ℕ = past is_space s at in
    let kind : eqb (token_from s q).kind kinds.end ≡ false = rw e in
    let t : Takes s q (token_from s q) = token_from_takes s q kind in
    record { some = omega (arith, place_from s q, t.after); inside = t.within }

-- the same of a token that is found to be that one
pub found_spans : (s : List ℕ) (at : ℕ) (t : Token) → t ≡ token_at s at → t.kind ≡ kinds.name → Spans s t
found_spans s at t e k = rw e (name_spans s at (rw e at k))
