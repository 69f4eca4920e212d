-- The channels of two texts: which of them belong together, and code 12 (SPECIFICATION 9.1, 9.2).
use Rattle.std.specs.Prelude.{◌≡◌, Bool, false, cond, not, ◌&&◌, List, ℕ, zero, suc, ◌+◌, ◌-◌, ◌≤◌, ◌<◌, eqb, leb, ltb, take, drop, Result, Ok, Err, ⊤}
use Rattle.refusals.specs.declared.File.TheVariants.{Left, Right}
use Rattle.refusals.specs.declared.Refusal.{Refusal}
use Rattle.refusals.specs.declared.Refusal.TheVariants.{UnmatchedChannel}
use Rattle.reader_tokens.specs.Scan.{same}
use Rattle.reader_record.specs.declared.Name.{Name}
use Rattle.reader_record.specs.declared.Text.{Text}
use Rattle.reader_formed.specs.Promise.{channel_name, NamesWithin, NamesDiffer}
use Rattle.bitmaps.specs.Bits.{tab_from}
use Rattle.clocks.specs.States.{input}
use Rattle.pairing.specs.declared.Pairing.{Pairing}
use Rattle.limits.specs.Limits.{channel_limit, step_limit}

-- what reading promises of the names of a text
pub record WellNamed (s : List ℕ) (t : Text) : Type 0 where
  pub within : NamesWithin s t
  pub differ : NamesDiffer s t

-- the numbers of the channels of a text, from 1 (SPECIFICATION 4.4)
pub record Channel (t : Text) (c : ℕ) : Type 0 where
  pub from_one : 0 < c
  pub declared : c ≤ t.channel_count

-- the name of channel c
abbrev pub name_of : Text → ℕ → Name
name_of t c = channel_name t (c - 1)

-- the bytes of a name of the text s (SPECIFICATION 5.2)
abbrev pub spelling : List ℕ → Name → List ℕ
spelling s n = take n.len (drop n.place s)

-- the other text has a channel with the name and the direction of channel c of the one (SPECIFICATION 9.1)
pub record Shared (s : List ℕ) (l : Text) (u : List ℕ) (r : Text) (c : ℕ) : Type 0 where
  pub other : ℕ
  pub there : Channel r other
  pub spelled : spelling s (name_of l c) ≡ spelling u (name_of r other)
  pub direction : input l c ≡ input r other

-- equal channels: all of both texts are shared (SPECIFICATION 9.1)
pub record EqualChannels (s : List ℕ) (l : Text) (u : List ℕ) (r : Text) : Type 0 where
  pub left : (c : ℕ) → Channel l c → Shared s l u r c
  pub right : (d : ℕ) → Channel r d → Shared u r s l d

-- whether a name of the text s is spelled as one of the text u
unfoldable pub alike : List ℕ → Name → List ℕ → Name → Bool
alike s m u n = same m.len (drop m.place s) n.len (drop n.place u)

-- the first of so many numbers from `at` on that passes, 0 if none does
unfoldable pub first_from : (ℕ → Bool) → ℕ → ℕ → ℕ
first_from p at zero = 0
first_from p at (suc room) = let rest = first_from p (suc at) room in cond (p at) at rest

-- the lowest of the numbers from 1 to n that passes, 0 if none does
unfoldable pub lowest : (ℕ → Bool) → ℕ → ℕ
lowest p n = first_from p 1 n

-- the channel of the other text that has this name, 0 if it has none; its names differ, so there is at most one
unfoldable pub partner : List ℕ → Name → List ℕ → Text → ℕ
partner s m u r = lowest (λ d. alike s m u (name_of r d)) r.channel_count

-- both are inputs, or both are not: an unused channel is an output (SPECIFICATION 9.1)
unfoldable pub agree : Bool → Bool → Bool
agree a b = cond a b (not b)

-- the other text has channel c, and with the same direction
unfoldable pub matched : List ℕ → Text → List ℕ → Text → ℕ → Bool
matched s l u r c =
    let d = partner s (name_of l c) u r in
    cond (eqb d 0) false (agree (input l c) (input r d))

-- the lowest channel without a match in the other text, 0 if there is none (SPECIFICATION 9.1)
unfoldable pub first_unmatched : List ℕ → Text → List ℕ → Text → ℕ
first_unmatched s l u r = lowest (λ c. not (matched s l u r c)) l.channel_count

-- code 12: the left file first, then the right (SPECIFICATION 9.1, 13.2)
unfoldable pub verdict : ℕ → ℕ → Result ⊤ Refusal
verdict c d =
    cond (eqb c 0)
    (cond (eqb d 0) (Ok tt) (Err (UnmatchedChannel Right d)))
    (Err (UnmatchedChannel Left c))

unfoldable pub unmatched : List ℕ → Text → List ℕ → Text → Result ⊤ Refusal
unmatched s l u r = verdict (first_unmatched s l u r) (first_unmatched u r s l)

-- the right's number of the left's step c: the tick is the tick, a channel its partner; 0 where the left has no such
-- step (SPECIFICATION 9.2)
unfoldable pub right_step : List ℕ → Text → List ℕ → Text → ℕ → ℕ
right_step s l u r c = cond (ltb 0 c && leb c l.channel_count) (partner s (name_of l c) u r) 0

-- code 12 or that the channels are equal, and beside either the right's numbers of the left's steps (SPECIFICATION 9.1,
-- 9.2)
unfoldable pub pairing : List ℕ → Text → List ℕ → Text → Pairing
pairing s l u r = record { answer = unmatched s l u r; map = tab_from (right_step s l u r) 0 step_limit }
