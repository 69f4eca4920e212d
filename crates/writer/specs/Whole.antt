-- The tokens of a text (SPECIFICATION 18.7) in the parts in which they are put, for inner contracts. Definitions only;
-- laws in WholeLaws.antt.
use Rattle.std.specs.Prelude.{List, [], ◌∷◌, ◌++◌, ℕ}
use Rattle.reader_tokens.specs.Scan.{bytes}
use Rattle.reader_record.specs.declared.Text.{Text}
use Rattle.written.specs.Spaced.{Tokens}
use Rattle.written.specs.Written.{process_called, location_called, channel_list, clock_list, location_list, edge_list}

-- `process` and its name, up to what opens its parts
unfoldable pub process_part : ℕ → Tokens
process_part u = bytes "process" ∷ process_called u ∷ bytes "(" ∷ bytes ")" ∷ bytes "{" ∷ []

-- `init` and its location
unfoldable pub init_part : ℕ → ℕ → Tokens
init_part u init = bytes "init" ∷ location_called u init ∷ bytes ";" ∷ []

-- the end of the text but for its last token
unfoldable pub end_part : ℕ → Tokens
end_part u = bytes "}" ∷ bytes "system" ∷ process_called u ∷ []

-- all tokens but the last, which is `;`
unfoldable pub text_but_last : List (List ℕ) → ℕ → Text → Tokens
text_but_last names u t =
    channel_list names t.channel_count
    ++ (process_part u
    ++ (clock_list u t.clock_count
    ++ (location_list u t ++ (init_part u t.init ++ (edge_list names u t ++ end_part u)))))
