-- Stages of the reader: each takes the byte place that it starts at, and gives what it read with the place behind it,
-- or a fault. The first fault stays: what comes after it is not read (SPECIFICATION 4.6). Here single tokens, with
-- codes 2 and 3 (SPECIFICATION 4.5).
use Rattle.std.specs.Prelude.{Bool, false, List, ℕ, ◌-◌, Result, Ok, Err, ◌==◌, nat_lt, if◌then◌else◌}
use Rattle.reader_tokens.specs.Kinds as kinds
use Rattle.reader_tokens.specs.Tokens.{token_at}
use Rattle.reader_tokens.specs.declared.Token.{Token}
use Rattle.reader_parts.specs.declared.Fault.{Fault}
use Rattle.reader_parts.specs.declared.Fault.TheVariants.{Misfit, NameTooLong}
use Rattle.reader_parts.specs.declared.NameRead.{NameRead}
use Rattle.limits.specs.Limits.{largest_name}

-- the next stage, where this one gave no fault
infixl 10 ◌>>=◌
abbrev pub ◌>>=◌ : {A B : Type 0} → Result A Fault → (A → Result B Fault) → Result B Fault
Ok x >>= f = f x
Err e >>= f = Err e

-- a stage behind another one: from the place that this one gave; its fault stays
abbrev pub onward : {A B : Type 0} → (A → Result B Fault) → Result A Fault → Result B Fault
onward f r = r >>= f

-- the next token, which has to be of the kind k: else code 2 (SPECIFICATION 4.5)
unfoldable pub take : List ℕ → ℕ → ℕ → Result ℕ Fault
take s p k = let t = token_at s p in if t.kind == k then Ok t.end else Err (Misfit t.place)

-- whether the next token is of the kind k
unfoldable pub ahead : List ℕ → ℕ → ℕ → Bool
ahead s p k = (token_at s p).kind == k

-- the same behind a stage: after a fault no token is
abbrev pub ahead_of : List ℕ → Result ℕ Fault → ℕ → Bool
ahead_of s (Ok p) k = ahead s p k
ahead_of s (Err f) k = false

-- a token that has to be a name: else code 2, and 3 where it is over the limit (SPECIFICATION 4.5)
unfoldable pub name_of : Token → Result NameRead Fault
name_of t =
    if t.kind == kinds.name then
    if nat_lt largest_name (t.end - t.place) then Err (NameTooLong t.place)
    else Ok (record { name = record { place = t.place; len = t.end - t.place }; end = t.end })
    else Err (Misfit t.place)

-- the next token, which has to be a name
unfoldable pub name_next : List ℕ → ℕ → Result NameRead Fault
name_next s p = name_of (token_at s p)
