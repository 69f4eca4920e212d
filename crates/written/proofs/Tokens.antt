-- The tokens of a written text are scanned as they were written: each at its place, with its kind and its end.
use Rattle.std.specs.Prelude.{◌≡◌, refl, List, [], ◌∷◌, ◌++◌, ℕ, zero, suc, ◌+◌, ◌≤◌, ◌<◌, length, drop}
use Rattle.std.proofs.Common.{sym, ap, ◌∙◌, arith, length-drop, drop-drop, le-ltb}
use Rattle.std.proofs.Math.Seq.{drop-append_seam, drop-append-add}
use Rattle.reader_tokens.specs.Scan.{is_space, run, past}
use Rattle.reader_tokens.specs.Kinds as kinds
use Rattle.reader_tokens.specs.Tokens.{token_from, token_at}
use Rattle.reader_tokens.specs.declared.Token.{Token}
use Rattle.written.specs.Spaced.{space_byte, line_feed, Tokens, after_token, spaced_tokens}

-- a byte that stands after a token
pub data Gap : ℕ → Type 0 where
  space : Gap space_byte
  last : Gap line_feed

abbrev pub token : ℕ → ℕ → ℕ → Token
token k p n = record { kind = k; place = p; end = p + n }

-- the bytes w are a token of the kind k, wherever they stand before a space or the last LF
pub record Fine (w : List ℕ) (k : ℕ) : Type 0 where
  pub starts : (r : List ℕ) → run is_space (w ++ r) ≡ 0
  pub scans : (s : List ℕ) (p b : ℕ) (r : List ℕ) → Gap b → drop p s ≡ w ++ (b ∷ r)
      → token_from s p ≡ token k p (length w)

-- the tokens ws stand at p: behind a token, or at the start of the text
pub data Ahead (s : List ℕ) : ℕ → Tokens → Type 0 where
  behind : {p : ℕ} {ws : Tokens} → drop p s ≡ after_token ws → Ahead s p ws
  first : {p : ℕ} {ws : Tokens} → drop p s ≡ spaced_tokens ws → Ahead s p ws

-- the token w of the kind k stands first, and ws after it
pub record Stands (s : List ℕ) (p : ℕ) (w : List ℕ) (k : ℕ) (ws : Tokens) : Type 0 where
  pub place : ℕ
  pub token_is : token_at s p ≡ token k place (length w)
  pub there : drop place s ≡ w ++ after_token ws

-- what follows a token begins with a gap
pub record Gapped (l : List ℕ) : Type 0 where
  pub byte : ℕ
  pub rest : List ℕ
  pub gap : Gap byte
  pub is : l ≡ byte ∷ rest

pub gapped : (ws : Tokens) → Gapped (after_token ws)
unfolding after_token
gapped [] = record { byte = line_feed; rest = []; gap = last; is = refl }
gapped (w ∷ ws) = record { byte = space_byte; rest = w ++ after_token ws; gap = space; is = refl }

scanned : (s : List ℕ) (q : ℕ) (ws : Tokens) {w : List ℕ} {k : ℕ} → Fine w k → drop q s ≡ w ++ after_token ws
    → token_from s q ≡ token k q (length w)
scanned s q ws {w} {k} f e =
    let g : Gapped (after_token ws) = gapped ws in
    f.scans s q g.byte g.rest g.gap (e ∙ ap (λ (l : List ℕ). w ++ l) g.is)

pub token_stands : {s : List ℕ} {p : ℕ} {w : List ℕ} {k : ℕ} {ws : Tokens} → Fine w k → Ahead s p (w ∷ ws)
    → Stands s p w k ws
unfolding token_at past run after_token spaced_tokens is_space
token_stands {s} {p} {w} {k} {ws} f (behind e) =
    let there : drop (p + 1) s ≡ w ++ after_token ws = sym (drop-drop 1 p s) ∙ ap (drop 1) e in
    record {
      place = p + 1;
      token_is = rw (e, f.starts (after_token ws)) (scanned s (p + 1) ws f there);
      there = there;
    }
token_stands {s} {p} {w} {k} {ws} f (first e) =
    let z : p + 0 ≡ p = omega arith in
    record {
      place = p;
      token_is = rw (e, f.starts (after_token ws), z) (scanned s p ws f e);
      there = e;
    }

-- past the last token the text is at its end
pub token_last : {s : List ℕ} {p : ℕ} → Ahead s p [] → (token_at s p).kind ≡ kinds.end
unfolding token_at token_from past run after_token spaced_tokens is_space
token_last {s} {p} (behind e) = let h : length s ≤ p + 1 = omega (arith, sym (length-drop p s) ∙ ap length e) in
    rw (e, le-ltb (p + 1) (length s) h)
token_last {s} {p} (first e) = let h : length s ≤ p + 1 = omega (arith, sym (length-drop p s) ∙ ap length e) in
    rw (e, le-ltb (p + 1) (length s) h)

-- the tokens after it stand at its end
pub tokens_after : {s : List ℕ} {p : ℕ} {w : List ℕ} {k : ℕ} {ws : Tokens} → (t : Stands s p w k ws)
    → Ahead s (t.place + length w) ws
tokens_after {s} {p} {w} {k} {ws} t =
    behind (sym (drop-drop (length w) t.place s) ∙ ap (drop (length w)) t.there
    ∙ drop-append_seam w (after_token ws))

-- where token i stands in the text of those tokens
unfoldable pub place_of : Tokens → ℕ → ℕ
place_of [] i = 0
place_of (w ∷ ws) zero = 0
place_of (w ∷ ws) (suc i) = length w + 1 + place_of ws i

-- each token of a text stands at its place
place_drop : (ws : Tokens) (i : ℕ) → i < length ws → drop (place_of ws i) (spaced_tokens ws) ≡ spaced_tokens (drop i ws)
unfolding place_of spaced_tokens after_token
place_drop [] i h = absurd (omega arith)
place_drop (w ∷ ws) zero h = refl
place_drop (w ∷ []) (suc i) h = absurd (omega arith)
place_drop (w ∷ v ∷ vs) (suc i) h =
    let e : length w + 1 + place_of (v ∷ vs) i ≡ length w + suc (place_of (v ∷ vs) i) = omega arith in
    rw e (drop-append-add w (after_token (v ∷ vs)) (suc (place_of (v ∷ vs) i)) ∙ place_drop (v ∷ vs) i (omega arith))

pub at_place : (ws : Tokens) (i : ℕ) → i < length ws → Ahead (spaced_tokens ws) (place_of ws i) (drop i ws)
at_place ws i h = first (place_drop ws i h)
