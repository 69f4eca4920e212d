-- The token at or after a place (SPECIFICATION 2.2 to 2.5).
use Rattle.std.specs.Prelude.{Bool, cond, ◌||◌, ◌&&◌, List, [], ◌∷◌, ℕ, suc, ◌+◌, ◌-◌, eqb, ltb, length, drop, get_or}
use Prim.Native.Char.{Char, code}
use Rattle.reader_tokens.specs.Scan.{bytes, member, is_space, is_letter, is_digit, is_part, past, same}
use Rattle.reader_tokens.specs.Kinds.{byte_values, end, stray, name, numeral, broadcast, pair}
use Rattle.reader_tokens.specs.declared.Class.{Class}
use Rattle.reader_tokens.specs.declared.Class.TheVariants.{Space, Part, Digit}
use Rattle.reader_tokens.specs.declared.Token.{Token}

-- the test of a class of bytes
abbrev pub is_in : Class → ℕ → Bool
is_in Space = is_space
is_in Part = is_part
is_in Digit = is_digit

-- the words, in the order of their kinds (SPECIFICATION 2.3)
unfoldable pub words : List (List ℕ)
words =
    bytes "broadcast"
    ∷ bytes "chan"
    ∷ bytes "process"
    ∷ bytes "clock"
    ∷ bytes "state"
    ∷ bytes "init"
    ∷ bytes "trans"
    ∷ bytes "system"
    ∷ bytes "guard"
    ∷ bytes "sync"
    ∷ bytes "assign"
    ∷ []

-- the kind of the n bytes at the front of x, where the words from the kind k on are left
unfoldable pub word_from : ℕ → List (List ℕ) → ℕ → List ℕ → ℕ
word_from k [] n x = name
word_from k (w ∷ ws) n x = let r = word_from (suc k) ws n x in cond (same n x (length w) w) k r

-- a word or a name (SPECIFICATION 2.3)
unfoldable pub word_kind : ℕ → List ℕ → ℕ
word_kind n x = word_from broadcast words n x

abbrev pub are : Char → Char → ℕ → ℕ → Bool
are x y a b = eqb a (code x) && eqb b (code y)

-- the marks of two bytes (SPECIFICATION 2.2)
unfoldable pub is_pair : ℕ → ℕ → Bool
is_pair a b = are "-" ">" a b || (are "<" "=" a b || (are ">" "=" a b || (are "=" "=" a b || are "&" "&" a b)))

-- the marks of one byte (SPECIFICATION 2.2)
abbrev pub singles : List ℕ
singles = bytes ",;{}()?!=<>"

unfoldable pub is_single : ℕ → Bool
is_single a = member a singles

-- the kind of the mark that starts with the byte a, before the byte b: two bytes before one (SPECIFICATION 2.4, 2.5)
unfoldable pub mark_kind : ℕ → ℕ → ℕ
mark_kind a b = cond (is_pair a b) (pair a b) (cond (is_single a) a stray)

-- how many bytes a mark has
unfoldable pub mark_length : ℕ → ℕ
mark_length k = cond (ltb k byte_values) 1 2

unfoldable pub mark_at : List ℕ → ℕ → Token
mark_at s p =
    let k = mark_kind (get_or s p 0) (get_or s (p + 1) 0) in
    record { kind = k; place = p; end = p + mark_length k }

unfoldable pub word_at : List ℕ → ℕ → Token
word_at s p = let e = past is_part s p in record { kind = word_kind (e - p) (drop p s); place = p; end = e }

-- the token that starts at p: a word or a name, a numeral, a mark; past the last byte it is the end. Words, names and
-- numerals go on as far as they can (SPECIFICATION 2.4)
unfoldable pub token_from : List ℕ → ℕ → Token
token_from s p =
    let word = word_at s p in
    let number : Token = record { kind = numeral; place = p; end = past is_digit s p } in
    let mark = mark_at s p in
    cond (ltb p (length s))
    (cond (is_letter (get_or s p 0)) word (cond (is_digit (get_or s p 0)) number mark))
    (record { kind = end; place = p; end = p })

-- the token at or after `at`, past white space (SPECIFICATION 2.1)
unfoldable pub token_at : List ℕ → ℕ → Token
token_at s at = token_from s (past is_space s at)
