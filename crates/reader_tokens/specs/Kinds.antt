-- The kinds of token (SPECIFICATION 2.2, 2.3, 2.5), as numbers: a mark of one byte is its byte, one of two is 256 times
-- the first and the second.
use Rattle.std.specs.Prelude.{ℕ, ◌+◌, ◌*◌}
use Prim.Native.Char.{code}

-- how many values a byte has
abbrev pub byte_values : ℕ
byte_values = 256

-- the end of the text, which counts as a token (SPECIFICATION 3.3, 4.5)
abbrev pub end : ℕ
end = 0

-- a byte that starts no token (SPECIFICATION 2.5)
abbrev pub stray : ℕ
stray = 1

-- a name (SPECIFICATION 2.2)
abbrev pub name : ℕ
name = 2

-- a numeral (SPECIFICATION 2.2)
abbrev pub numeral : ℕ
numeral = 3

-- the words, each a kind of its own (SPECIFICATION 2.3)
abbrev pub broadcast : ℕ
broadcast = 4

abbrev pub chan : ℕ
chan = 5

abbrev pub process : ℕ
process = 6

abbrev pub clock : ℕ
clock = 7

abbrev pub state : ℕ
state = 8

abbrev pub init : ℕ
init = 9

abbrev pub trans : ℕ
trans = 10

abbrev pub system : ℕ
system = 11

abbrev pub guard : ℕ
guard = 12

abbrev pub sync : ℕ
sync = 13

abbrev pub assign : ℕ
assign = 14

-- the marks of one byte, and those of two (SPECIFICATION 2.2)
abbrev pub comma : ℕ
comma = code ","

abbrev pub semicolon : ℕ
semicolon = code ";"

abbrev pub opens : ℕ
opens = code "{"

abbrev pub closes : ℕ
closes = code "}"

abbrev pub left_paren : ℕ
left_paren = code "("

abbrev pub right_paren : ℕ
right_paren = code ")"

abbrev pub input : ℕ
input = code "?"

abbrev pub output : ℕ
output = code "!"

abbrev pub becomes : ℕ
becomes = code "="

abbrev pub less : ℕ
less = code "<"

abbrev pub greater : ℕ
greater = code ">"

abbrev pub pair : ℕ → ℕ → ℕ
pair a b = byte_values * a + b

-- `->`
abbrev pub arrow : ℕ
arrow = pair (code "-") (code ">")

-- `<=`
abbrev pub at_most : ℕ
at_most = pair (code "<") (code "=")

-- `>=`
abbrev pub at_least : ℕ
at_least = pair (code ">") (code "=")

-- `==`
abbrev pub equal : ℕ
equal = pair (code "=") (code "=")

-- `&&`
abbrev pub both : ℕ
both = pair (code "&") (code "&")
