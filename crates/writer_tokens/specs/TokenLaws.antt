-- Tokens put one after another.
use Rattle.std.specs.Prelude.{◌≡◌, refl, List, [], ◌∷◌, ◌++◌, ℕ, length}
use Rattle.std.proofs.Common.{sym, ◌∙◌}
use Rattle.byte_slices.specs.Put.{Puts, puts_then, puts_none, puts_same, puts_length}
use Rattle.written.specs.Spaced.{space_byte, line_feed, Tokens, spaced_tokens}
use Rattle.written.proofs.Trailing.{tokens_before, before_append, spaced_last}
use Rattle.writer_tokens.specs.Tokens.{PutsTokens, LeftToPut}

-- one token: its bytes and a space
pub token_puts :
    {a b c w : List ℕ} {i j k : ℕ} → Puts a i w b j → Puts b j (space_byte ∷ []) c k → PutsTokens a i (w ∷ []) c k
unfolding tokens_before
token_puts first second = record { puts = puts_then first second }

-- no token
pub tokens_none : {a : List ℕ} {i : ℕ} → PutsTokens a i [] a i
unfolding tokens_before
tokens_none = record { puts = puts_none }

-- tokens behind tokens
pub tokens_then :
    {a b c : List ℕ} {xs ys : Tokens} {i j k : ℕ} → PutsTokens a i xs b j → PutsTokens b j ys c k
    → PutsTokens a i (xs ++ ys) c k
tokens_then {xs = xs} {ys = ys} first second = record {
  puts = puts_same (sym (before_append xs ys)) (puts_then first.puts second.puts);
}

-- the same tokens, written otherwise
pub tokens_same :
    {a b : List ℕ} {xs ys : Tokens} {i j : ℕ} → xs ≡ ys → PutsTokens a i xs b j → PutsTokens a i ys b j
tokens_same e p = rw e at p

-- the slice keeps its length
pub tokens_length : {a b : List ℕ} {xs : Tokens} {i j : ℕ} → PutsTokens a i xs b j → length b ≡ length a
tokens_length p = puts_length p.puts

-- a text is its tokens up to the last, and that one before a line feed
pub text_puts :
    {a b c : List ℕ} {i j k : ℕ} (xs : Tokens) (w : List ℕ) → PutsTokens a i xs b j
    → Puts b j (w ++ (line_feed ∷ [])) c k → Puts a i (spaced_tokens (xs ++ (w ∷ []))) c k
text_puts xs w first second = puts_same (sym (spaced_last xs w)) (puts_then first.puts second)

-- what is left at first is everything
pub left_all : {a : List ℕ} {i : ℕ} {xs : Tokens} → LeftToPut a i xs a i xs
left_all = record { same_length = refl; whole = λ p. p }

-- some of it is put
pub left_then :
    {a b c : List ℕ} {i j k : ℕ} {xs ys zs : Tokens} → LeftToPut a i xs b j (ys ++ zs) → PutsTokens b j ys c k
    → LeftToPut a i xs c k zs
left_then before put = record {
  same_length = tokens_length put ∙ before.same_length;
  whole = λ p. before.whole (tokens_then put p);
}

-- the same tokens are left, written otherwise
pub left_same :
    {a b : List ℕ} {i j : ℕ} {xs ys zs : Tokens} → ys ≡ zs → LeftToPut a i xs b j ys → LeftToPut a i xs b j zs
left_same e p = rw e at p
