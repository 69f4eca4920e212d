-- Nine of the texts, read and judged: accepted, and the safe states of each, computed.
use Rattle.std.specs.Prelude.{◌≡◌, refl, Bool, true, false, List, [], ◌∷◌, ℕ, Result, Ok, ⊤}
use Rattle.std.proofs.Common.{sym, ap, ◌∙◌}
use Rattle.systems.specs.Finite.{safe_states}
use Rattle.systems.proofs.Compute.{safe_fast, safe_fast_same}
use Rattle.reader_record.specs.declared.Text.{Text}
use Rattle.refusals.specs.declared.Refusal.{Refusal}
use Rattle.reader.specs.Reading.{read_text}
use Rattle.reader_examples.specs.Texts.{post, rearm, woken, overridden, early, strict, hush, idle, twice}
use Rattle.reader_examples.specs.Records.{post_record, rearm_record, woken_record, overridden_record, early_record, strict_record, hush_record, idle_record, twice_record}
use Rattle.reader_examples.specs.Read.{post_read, rearm_read, woken_read, overridden_read, early_read, strict_read, hush_read, idle_read, twice_read}
use Rattle.clocks.specs.declared.Flaw.{Flaw}
use Rattle.clocks.specs.Accepted.{Accepted}
use Rattle.clocks.specs.States.{state_count, start_state, judgement}
use Rattle.clocks.proofs.Contract.{system}
use Rattle.clocks_read.specs.declared.Reading.{Reading}
use Rattle.clocks_read.specs.Reading.{judged_reading, parsed_reading, read_outcome}
use Rattle.guarantees_starred.proofs.Opened.{opened}
use Rattle.limits.specs.Limits.{shortest_tick}

-- what reading gives for a text with the record t
abbrev pub reading_of : Text → Result Reading Refusal
reading_of t = Ok (record { text = t; states = state_count t })

pub read_known : (period : ℕ) (s : List ℕ) (t : Text)
    → read_text period s ≡ Ok t → judgement t ≡ Ok tt
    → read_outcome period s ≡ reading_of t
unfolding read_outcome parsed_reading judged_reading
read_known period s t e c = ap parsed_reading e ∙ ap (λ (j : Result ⊤ Flaw). judged_reading j t) c

-- what is computed of a text at tick length 1: it is read and accepted, the number of its states, that it starts in 0,
-- its safe states
pub record Known (s : List ℕ) (t : Text) (n : ℕ) (K : List Bool) : Type 0 where
  pub read : read_outcome shortest_tick s ≡ reading_of t
  pub size : state_count t ≡ n
  pub start : start_state t ≡ 0
  pub safe : (a : Accepted t) → safe_states (system t a) ≡ K

known :
    {s : List ℕ} {t : Text} {n : ℕ} {K : List Bool} → read_text shortest_tick s
    ≡ Ok t
    → judgement t ≡ Ok tt → state_count t ≡ n → start_state t ≡ 0 → ((a : Accepted t) → safe_fast (system t a) ≡ K)
    → Known s t n K
known {s} {t} read clean size start safe = record {
  read = read_known shortest_tick s t read clean;
  size = size;
  start = start;
  safe = λ a. sym (safe_fast_same (system t a)) ∙ safe a;
}

abbrev pub post_keep : List Bool
post_keep = true ∷ true ∷ true ∷ true ∷ false ∷ true ∷ true ∷ true ∷ true ∷ true ∷ []

pub post_known : Known post post_record 10 post_keep
unfolding opened
post_known = known post_read refl refl refl (λ a. refl)

abbrev pub rearm_keep : List Bool
rearm_keep = true ∷ true ∷ true ∷ true ∷ false ∷ true ∷ true ∷ true ∷ true ∷ true ∷ []

pub rearm_known : Known rearm rearm_record 10 rearm_keep
unfolding opened
rearm_known = known rearm_read refl refl refl (λ a. refl)

abbrev pub early_keep : List Bool
early_keep = true ∷ true ∷ true ∷ false ∷ true ∷ true ∷ true ∷ true ∷ []

pub early_known : Known early early_record 8 early_keep
unfolding opened
early_known = known early_read refl refl refl (λ a. refl)

abbrev pub strict_keep : List Bool
strict_keep =
    true ∷ true ∷ true ∷ true ∷ false ∷ false ∷ true ∷ true ∷ true ∷ true ∷ true ∷ true ∷ []

pub strict_known : Known strict strict_record 12 strict_keep
unfolding opened
strict_known = known strict_read refl refl refl (λ a. refl)

abbrev pub hush_keep : List Bool
hush_keep = false ∷ false ∷ false ∷ false ∷ false ∷ true ∷ true ∷ true ∷ true ∷ true ∷ []

pub hush_known : Known hush hush_record 10 hush_keep
unfolding opened
hush_known = known hush_read refl refl refl (λ a. refl)

abbrev pub idle_keep : List Bool
idle_keep = true ∷ true ∷ true ∷ true ∷ []

pub idle_known : Known idle idle_record 4 idle_keep
unfolding opened
idle_known = known idle_read refl refl refl (λ a. refl)

-- the safe states of Twice are those of Post
pub twice_known : Known twice twice_record 10 post_keep
unfolding opened
twice_known = known twice_read refl refl refl (λ a. refl)

-- and so are those of Woken
pub woken_known : Known woken woken_record 10 post_keep
unfolding opened
woken_known = known woken_read refl refl refl (λ a. refl)

-- with a value of 7 that is overridden there are 9 values of x, of which Wait allows 4
abbrev pub overridden_keep : List Bool
overridden_keep =
    true ∷ true ∷ true ∷ true ∷ false ∷ false ∷ false ∷ false ∷ false
    ∷ true ∷ true ∷ true ∷ true ∷ true ∷ true ∷ true ∷ true ∷ true ∷ []

pub overridden_known : Known overridden overridden_record 18 overridden_keep
unfolding opened
overridden_known = known overridden_read refl refl refl (λ a. refl)
