-- The text that is written for a record, whose channels have those names and whose other names stand behind so many
-- underscores (SPECIFICATION 18.6, 18.7). Its parts and their order are those of the grammar (SPECIFICATION 3.1).
use Rattle.std.specs.Prelude.{cond, List, [], ◌∷◌, ◌++◌, map, ℕ, zero, suc, ◌-◌, get_or, replicate}
use Prim.Native.Char.{Char, code}
use Rattle.byte_slices.specs.Decimal.{decimal}
use Rattle.reader_tokens.specs.Scan.{bytes}
use Rattle.reader_record.specs.Record.{no_assignment, edge, invariant_of, comparison, channel}
use Rattle.reader_record.specs.declared.Sign.{Sign}
use Rattle.reader_record.specs.declared.Sign.TheVariants.{AtMost, AtLeast, Equal, Less, Greater}
use Rattle.reader_record.specs.declared.Comparison.{Comparison}
use Rattle.reader_record.specs.declared.Constraint.{Constraint}
use Rattle.reader_record.specs.declared.Label.{Label}
use Rattle.reader_record.specs.declared.Label.TheVariants.{Input, Output}
use Rattle.reader_record.specs.declared.Assignment.{Assignment}
use Rattle.reader_record.specs.declared.Edge.{Edge}
use Rattle.reader_record.specs.declared.Text.{Text}
use Rattle.written.specs.Spaced.{Tokens, spaced_tokens, part_tokens, numbered_items}

-- the names that are made: a letter and a number from 0, behind u underscores (SPECIFICATION 18.6)
unfoldable pub called : Char → ℕ → ℕ → List ℕ
called letter u i = replicate u (code "_") ++ (code letter ∷ decimal i)

abbrev pub location_called : ℕ → ℕ → List ℕ
location_called u i = called "l" u i

abbrev pub clock_called : ℕ → ℕ → List ℕ
clock_called u i = called "c" u i

abbrev pub process_called : ℕ → List ℕ
process_called u = called "p" u 0

unfoldable pub sign_bytes : Sign → List ℕ
sign_bytes AtMost = bytes "<="
sign_bytes AtLeast = bytes ">="
sign_bytes Equal = bytes "=="
sign_bytes Less = bytes "<"
sign_bytes Greater = bytes ">"

-- a comparison; its constant is in ticks, as the record has it (SPECIFICATION 5.3, 18.3)
unfoldable pub comparison_tokens : ℕ → Comparison → Tokens
comparison_tokens u x = clock_called u x.clock ∷ sign_bytes x.sign ∷ decimal x.bound ∷ []

-- comparisons joined by `&&` between an opening and a closing token; nothing where there is none
unfoldable pub constraint_tokens : List ℕ → List ℕ → ℕ → Constraint → Tokens
constraint_tokens opening closing u g =
    part_tokens (opening ∷ []) (bytes "&&") closing
    (numbered_items (λ i. comparison_tokens u (comparison g i)) 0 g.count)

-- a location and its invariant
unfoldable pub location_tokens : ℕ → Text → ℕ → Tokens
location_tokens u t l = location_called u l ∷ constraint_tokens (bytes "{") (bytes "}") u (invariant_of t l)

-- the mark of an input or an output
unfoldable pub mark_bytes : Label → List ℕ
mark_bytes (Input c) = bytes "?"
mark_bytes (Output c) = bytes "!"

-- `sync`, a channel and its mark; channels are numbered from 1
unfoldable pub label_tokens : List (List ℕ) → Label → Tokens
label_tokens names a = bytes "sync" ∷ get_or names (channel a - 1) [] ∷ mark_bytes a ∷ bytes ";" ∷ []

-- the clocks among the n from number i on that are assigned, once each in clock order (SPECIFICATION 18.5)
unfoldable pub assigned_clocks : List Assignment → ℕ → ℕ → List ℕ
assigned_clocks all i zero = []
assigned_clocks all i (suc n) =
    let more = assigned_clocks all (suc i) n in
    cond (get_or all i no_assignment).made (i ∷ more) more

-- clock i and the value assigned, in ticks (SPECIFICATION 18.5)
unfoldable pub assignment_tokens : ℕ → List Assignment → ℕ → Tokens
assignment_tokens u all i = clock_called u i ∷ bytes "=" ∷ decimal (get_or all i no_assignment).value ∷ []

unfoldable pub assignments_tokens : ℕ → ℕ → List Assignment → Tokens
assignments_tokens u clocks all =
    part_tokens (bytes "assign" ∷ []) (bytes ",") (bytes ";")
    (map (assignment_tokens u all) (assigned_clocks all 0 clocks))

-- an edge: its two locations, and between brackets guard, label and assignments
unfoldable pub edge_tokens : List (List ℕ) → ℕ → ℕ → Edge → Tokens
edge_tokens names u clocks e =
    location_called u e.source
    ∷ bytes "->"
    ∷ location_called u e.target
    ∷ bytes "{"
    ∷ (constraint_tokens (bytes "guard") (bytes ";") u e.guard
    ++ (label_tokens names e.label ++ (assignments_tokens u clocks e.assignments ++ (bytes "}" ∷ []))))

-- a list that a word or two open: n items joined by commas, and `;`
unfoldable pub list_tokens : Tokens → (ℕ → Tokens) → ℕ → Tokens
list_tokens opening item n = part_tokens opening (bytes ",") (bytes ";") (numbered_items item 0 n)

unfoldable pub channel_list : List (List ℕ) → ℕ → Tokens
channel_list names n = list_tokens (bytes "broadcast" ∷ bytes "chan" ∷ []) (λ i. get_or names i [] ∷ []) n

unfoldable pub clock_list : ℕ → ℕ → Tokens
clock_list u n = list_tokens (bytes "clock" ∷ []) (λ i. clock_called u i ∷ []) n

unfoldable pub location_list : ℕ → Text → Tokens
location_list u t = list_tokens (bytes "state" ∷ []) (location_tokens u t) t.location_count

unfoldable pub edge_list : List (List ℕ) → ℕ → Text → Tokens
edge_list names u t =
    list_tokens (bytes "trans" ∷ []) (λ i. edge_tokens names u t.clock_count (edge t i)) t.edge_count

-- the tokens of the parts in their order
unfoldable pub text_tokens : List (List ℕ) → ℕ → Text → Tokens
text_tokens names u t =
    channel_list names t.channel_count
    ++ (bytes "process"
    ∷ process_called u
    ∷ bytes "("
    ∷ bytes ")"
    ∷ bytes "{"
    ∷ (clock_list u t.clock_count
    ++ (location_list u t
    ++ (bytes "init"
    ∷ location_called u t.init
    ∷ bytes ";"
    ∷ (edge_list names u t ++ (bytes "}" ∷ bytes "system" ∷ process_called u ∷ bytes ";" ∷ []))))))

unfoldable pub written_with : List (List ℕ) → ℕ → Text → List ℕ
written_with names u t = spaced_tokens (text_tokens names u t)
