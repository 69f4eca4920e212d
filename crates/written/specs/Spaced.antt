-- Tokens, each as its bytes, and the text that they make: one space between tokens, one LF at the end; parts without
-- items are left out (SPECIFICATION 18.7).
use Rattle.std.specs.Prelude.{List, [], ◌∷◌, ◌++◌, ℕ, zero, suc}
use Prim.Native.Char.{code}

-- the bytes that are written between and after tokens
abbrev pub space_byte : ℕ
space_byte = code " "

abbrev pub line_feed : ℕ
line_feed = code "\n"

abbrev pub Tokens : Type 0
Tokens = List (List ℕ)

-- the bytes after a token, where those tokens follow
unfoldable pub after_token : Tokens → List ℕ
after_token [] = line_feed ∷ []
after_token (w ∷ ws) = space_byte ∷ (w ++ after_token ws)

-- the text of those tokens
unfoldable pub spaced_tokens : Tokens → List ℕ
spaced_tokens [] = line_feed ∷ []
spaced_tokens (w ∷ ws) = w ++ after_token ws

-- the items after the first, each behind the joining token, and the closing token
unfoldable pub later_items : List ℕ → List ℕ → List Tokens → Tokens
later_items join closing [] = closing ∷ []
later_items join closing (x ∷ xs) = join ∷ (x ++ later_items join closing xs)

-- a part of the text: what opens it, its items joined, and what closes it; left out where there is no item
unfoldable pub part_tokens : Tokens → List ℕ → List ℕ → List Tokens → Tokens
part_tokens opening join closing [] = []
part_tokens opening join closing (x ∷ xs) = opening ++ (x ++ later_items join closing xs)

-- the n items from number i on
unfoldable pub numbered_items : (ℕ → Tokens) → ℕ → ℕ → List Tokens
numbered_items item i zero = []
numbered_items item i (suc n) = item i ∷ numbered_items item (suc i) n
