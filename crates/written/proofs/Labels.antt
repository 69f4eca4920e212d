-- The label of an edge that is written is read back.
use Rattle.std.specs.Prelude.{◌≡◌, refl, true, List, [], ◌∷◌, ◌++◌, ℕ, ◌+◌, ◌-◌, ◌≤◌, ◌<◌, Bool, IsOkAnd, get_or}
use Rattle.std.proofs.Common.{arith}
use Rattle.reader_tokens.specs.Kinds as kinds
use Rattle.reader_tokens.specs.Scan.{bytes}
use Rattle.limits.specs.Limits.{channel_limit}
use Rattle.reader_record.specs.Record.{no_channel, channel}
use Rattle.reader_record.specs.declared.Name.{Name}
use Rattle.reader_record.specs.declared.Channel.{Channel}
use Rattle.reader_record.specs.declared.Label.{Label}
use Rattle.reader_record.specs.declared.Label.TheVariants.{Input, Output}
use Rattle.reader_parts.specs.Slots.{first_channel}
use Rattle.reader_edges.specs.declared.MarkRead.{MarkRead}
use Rattle.reader_edges.specs.declared.LabelRead.{LabelRead}
use Rattle.reader_edges.specs.Labels.{mark_of, mark_next, fits, mark_judged, label_of, label_next}
use Rattle.written.specs.Spaced.{Tokens}
use Rattle.written.specs.Written.{mark_bytes, label_tokens}
use Rattle.written.proofs.Tokens.{Ahead, Stands, token_stands, tokens_after}
use Rattle.written.proofs.Words.{sync_fine, input_fine, output_fine, semicolon_fine}
use Rattle.written.proofs.Steps.{taken, then_read}
use Rattle.written.proofs.Slots.{Uses}
use Rattle.written.proofs.Constraints.{KindKnown, known_used}
use Rattle.written.proofs.Same.{is_input_label}

pub record MarkReads (s : List ℕ) (ws : Tokens) (a : Label) (m : MarkRead) : Type 0 where
  pub before : Ahead s m.end ws
  pub is : m.input ≡ is_input_label a

mark_read : {s : List ℕ} {ws : Tokens} {p : ℕ} (a : Label) → Ahead s p (mark_bytes a ∷ ws)
    → IsOkAnd (mark_next s p) (MarkReads s ws a)
unfolding mark_bytes mark_next mark_of is_input_label
mark_read {s} {ws} {p} (Input c) a =
    let t : Stands s p (bytes "?") kinds.input ws = token_stands input_fine a in
    rw t.token_is (record { before = tokens_after t; is = refl })
mark_read {s} {ws} {p} (Output c) a =
    let t : Stands s p (bytes "!") kinds.output ws = token_stands output_fine a in
    rw t.token_is (record { before = tokens_after t; is = refl })

mark_right : {s : List ℕ} {ws : Tokens} {p : ℕ} (right : Bool) (place : ℕ) → right ≡ true → Ahead s p ws
    → IsOkAnd (mark_judged right place p) (λ q. Ahead s q ws)
unfolding mark_judged
mark_right right place e a = rw e a

label_is : (a : Label) → 0 < channel a → label_of (is_input_label a) (channel a - 1) ≡ a
unfolding label_of is_input_label channel
label_is (Input c) h = let e : (c - 1) + 1 ≡ c = omega arith in rw e
label_is (Output c) h = let e : (c - 1) + 1 ≡ c = omega arith in rw e

pub record LabelReads (s : List ℕ) (ws : Tokens) (a : Label) (r : LabelRead) : Type 0 where
  pub before : Ahead s r.end ws
  pub channel_is : r.channel ≡ channel a - 1
  pub input_is : r.input ≡ is_input_label a
  pub is : r.label ≡ a

pub label_read : {s : List ℕ} {names : List Name} {count : ℕ} (words : List (List ℕ))
    → KindKnown s names first_channel count (λ i. get_or words i []) → count ≤ channel_limit
    → (a : Label) → 0 < channel a → channel a ≤ count → (channels : List Channel)
    → fits (get_or channels (channel a - 1) no_channel).direction (is_input_label a) ≡ true
    → (ws : Tokens) {p : ℕ} → Ahead s p (label_tokens words a ++ ws)
    → IsOkAnd (label_next s p names channels) (LabelReads s ws a)
unfolding label_tokens label_next
label_read {s} words known few a h l channels right ws b =
    let end : Tokens = bytes ";" ∷ ws in
    then_read _ _ (λ q. Ahead s q (get_or words (channel a - 1) [] ∷ mark_bytes a ∷ end)) (LabelReads s ws a)
    (taken sync_fine b)
    (λ q d. then_read _ _ (Uses s (mark_bytes a ∷ end) (channel a - 1)) (LabelReads s ws a)
    (known_used known channel_limit (channel a - 1) (omega arith) few d)
    (λ used c. then_read _ _ (MarkReads s end a) (LabelReads s ws a) (mark_read a c.before)
    (λ mark m. then_read _ _ (λ z. Ahead s z end) (LabelReads s ws a)
    (mark_right _ used.place (rw (c.number_is, m.is) right) m.before)
    (λ z e. then_read _ _ (λ y. Ahead s y ws) (LabelReads s ws a) (taken semicolon_fine e)
    (λ y o. record {
      before = o;
      channel_is = c.number_is;
      input_is = m.is;
      is = rw (c.number_is, m.is) (label_is a h);
    })))))
