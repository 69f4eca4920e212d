-- A text, token by token from the left, for the contracts of what writes it: the tokens written so far, each with the
-- space after it, and what is still to be written.
use Rattle.std.specs.Prelude.{◌≡◌, refl, List, [], ◌∷◌, ◌++◌, ℕ}
use Rattle.std.proofs.Common.{sym, ap, ◌∙◌, append_assoc}
use Rattle.written.specs.Spaced.{space_byte, line_feed, Tokens, after_token, spaced_tokens}

-- those tokens, each with the space after it
unfoldable pub tokens_before : Tokens → List ℕ
tokens_before [] = []
tokens_before (w ∷ ws) = w ++ (space_byte ∷ tokens_before ws)

pub before_append : (xs ys : Tokens) → tokens_before (xs ++ ys) ≡ tokens_before xs ++ tokens_before ys
unfolding tokens_before
before_append [] ys = refl
before_append (w ∷ xs) ys = rw (before_append xs ys, append_assoc)

-- tokens before others: a space stands between
pub spaced_append :
    (xs : Tokens) (v : List ℕ) (ys : Tokens)
    → spaced_tokens (xs ++ (v ∷ ys)) ≡ tokens_before xs ++ spaced_tokens (v ∷ ys)
unfolding tokens_before spaced_tokens after_token
spaced_append [] v ys = refl
spaced_append (w ∷ []) v ys = rw append_assoc
spaced_append (w ∷ x ∷ xs) v ys = ap (λ l. w ++ (space_byte ∷ l)) (spaced_append (x ∷ xs) v ys)
    ∙ sym (append_assoc w (space_byte ∷ tokens_before (x ∷ xs)) (spaced_tokens (v ∷ ys)))

-- the last token is followed by LF
pub spaced_last :
    (xs : Tokens) (v : List ℕ)
    → spaced_tokens (xs ++ (v ∷ [])) ≡ tokens_before xs ++ (v ++ (line_feed ∷ []))
unfolding spaced_tokens after_token
spaced_last xs v = spaced_append xs v []
