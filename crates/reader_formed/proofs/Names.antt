-- A name that is read lies within the text.
use Rattle.std.specs.Prelude.{◌≡◌, List, ℕ, ◌-◌, ◌≤◌, Result, IfOk, eqb, ltb}
use Rattle.std.proofs.Common.{arith, eqb-true, ltb-false}
use Rattle.reader_tokens.specs.Kinds as kinds
use Rattle.reader_tokens.specs.Tokens.{token_at}
use Rattle.reader_tokens.specs.Spans.{Spans, name_spans}
use Rattle.reader_tokens.specs.declared.Token.{Token}
use Rattle.reader_parts.specs.declared.Fault.{Fault}
use Rattle.reader_parts.specs.declared.NameRead.{NameRead}
use Rattle.reader_parts.specs.Stages.{name_of, name_next}
use Rattle.reader_formed.specs.Promise.{Within}
use Rattle.reader_formed.proofs.Cases.{split}
use Rattle.limits.specs.Limits.{largest_name}

-- the name lies within the text
abbrev pub Named : List ℕ → NameRead → Type 0
Named s r = Within s r.name

of_within : (s : List ℕ) (t : Token) → (t.kind ≡ kinds.name → Spans s t) → IfOk (name_of t) (Named s)
unfolding name_of
of_within s t h =
    split P (eqb t.kind kinds.name)
    (λ e. split P (ltb largest_name (t.end - t.place))
    (λ _. tt)
    (λ l. named (h (eqb-true t.kind kinds.name e)) (ltb-false largest_name (t.end - t.place) l)))
    (λ _. tt)
  where
    P : Result NameRead Fault → Type 0
    P r = IfOk r (Named s)

    named :
        Spans s t → t.end - t.place ≤ largest_name → Within s (record { place = t.place; len = t.end - t.place })
    named w l = record { some = omega (arith, w.some); few = l; inside = omega (arith, w.some, w.inside) }

pub name_read : (s : List ℕ) (p : ℕ) → IfOk (name_next s p) (Named s)
unfolding name_next
name_read s p = of_within s (token_at s p) (name_spans s p)
