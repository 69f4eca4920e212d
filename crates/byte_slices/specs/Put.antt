-- Bytes put at a place of a slice one by one, for inner contracts: those of two lists in a row are those of both, and
-- from the front on they are laid over the slice.
use Rattle.std.specs.Prelude.{◌≡◌, refl, Bool, true, false, cond, List, [], ◌∷◌, ◌++◌, ℕ, ◌+◌, ◌<◌, ◌≤◌, min, ltb, length, take, drop, set}
use Rattle.std.proofs.Common.{sym, ap, ◌∙◌, arith, length-append, length-take, length-drop, length-set, take_all, take_at, lt-ltb, le-ltb}
use Rattle.std.proofs.Math.Seq.{take-nil, drop-nil, append_snoc, set-append_seam}
use Rattle.byte_slices.specs.Laid.{Laid, laid}

-- one byte at the place behind those laid; where the slice has no such place it is dropped
unfoldable pub put_byte : Laid → ℕ → Laid
put_byte l b =
    cond (ltb l.count (length l.slice)) (record { slice = set l.slice l.count b; count = l.count + 1 }) l

-- one after another
unfoldable pub put : Laid → List ℕ → Laid
put l [] = l
put l (b ∷ bytes) = put (put_byte l b) bytes

-- what a function promises that puts bytes into `before` from the place `at` on: the slice and the place afterwards
pub record Puts (before : List ℕ) (at : ℕ) (bytes after : List ℕ) (place : ℕ) : Type 0 where
  pub all :
      ◌≡◌ {A = Laid} (record { slice = after; count = place }) (put (record { slice = before; count = at }) bytes)

put_append : (l : Laid) (xs ys : List ℕ) → put l (xs ++ ys) ≡ put (put l xs) ys
unfolding put
put_append l [] ys = refl
put_append l (b ∷ xs) ys = put_append (put_byte l b) xs ys

-- one part behind another
pub puts_then :
    {a b c xs ys : List ℕ} {i j k : ℕ} → Puts a i xs b j → Puts b j ys c k → Puts a i (xs ++ ys) c k
puts_then {a = a} {xs = xs} {ys = ys} {i = i} first second = record {
  all = second.all ∙ ap (λ (l : Laid). put l ys) first.all
      ∙ sym (put_append (record { slice = a; count = i }) xs ys);
}

-- nothing
pub puts_none : {a : List ℕ} {i : ℕ} → Puts a i [] a i
unfolding put
puts_none = record { all = refl }

-- a byte that has a place, and one that has none
pub puts_here : (a : List ℕ) (i b : ℕ) → i < length a → Puts a i (b ∷ []) (set a i b) (i + 1)
unfolding put put_byte
puts_here a i b h = record { all = rw (lt-ltb i (length a) h) }

pub puts_dropped : (a : List ℕ) (i b : ℕ) → length a ≤ i → Puts a i (b ∷ []) a i
unfolding put put_byte
puts_dropped a i b h = record { all = rw (le-ltb i (length a) h) }

-- the slice keeps its length
byte_length : (l : Laid) (b : ℕ) → length (put_byte l b).slice ≡ length l.slice
unfolding put_byte
byte_length l b = by (ltb l.count (length l.slice))
  where
    by : (t : Bool) → length (cond t (record { slice = set l.slice l.count b; count = l.count + 1 }) l).slice ≡ length l.slice
    by true = length-set l.slice l.count b
    by false = refl

put_length : (l : Laid) (bytes : List ℕ) → length (put l bytes).slice ≡ length l.slice
unfolding put
put_length l [] = refl
put_length l (b ∷ bytes) = put_length (put_byte l b) bytes ∙ byte_length l b

pub puts_length : {a b xs : List ℕ} {i j : ℕ} → Puts a i xs b j → length b ≡ length a
puts_length {a = a} {xs = xs} {i = i} p =
    ap (λ (l : Laid). length l.slice) p.all ∙ put_length (record { slice = a; count = i }) xs

-- into the same slice
pub puts_from : {a b c xs : List ℕ} {i j : ℕ} → a ≡ b → Puts a i xs c j → Puts b i xs c j
puts_from e p = rw e at p

-- the same bytes, written otherwise
pub puts_same : {a b xs ys : List ℕ} {i j : ℕ} → xs ≡ ys → Puts a i xs b j → Puts a i ys b j
puts_same e p = rw e at p

same_laid : {a b : List ℕ} {i j : ℕ} → a ≡ b → i ≡ j
    → ◌≡◌ {A = Laid} (record { slice = a; count = i }) (record { slice = b; count = j })
same_laid e f = rw (e, f)

-- a byte put behind p, where nothing stands and where x does
byte_past : (p : List ℕ) (b : ℕ) → put_byte (record { slice = p ++ []; count = length p }) b
    ≡ record { slice = p ++ []; count = length p }
unfolding put_byte
byte_past p b = rw (le-ltb (length p) (length (p ++ [])) (omega (arith, length-append p [])))

byte_behind : (p : List ℕ) (x : ℕ) (r : List ℕ) (b : ℕ) → put_byte (record { slice = p ++ x ∷ r; count = length p }) b
    ≡ record { slice = (p ++ (b ∷ [])) ++ r; count = length (p ++ (b ∷ [])) }
unfolding put_byte
byte_behind p x r b =
    rw (lt-ltb (length p) (length (p ++ x ∷ r)) (omega (arith, length-append p (x ∷ r))))
    (same_laid (set-append_seam p x r b ∙ sym (append_snoc p b r)) (sym (length-append p (b ∷ []))))

-- bytes put over what stands behind p
put_behind :
    (p r bytes : List ℕ) → put (record { slice = p ++ r; count = length p }) bytes ≡ record {
      slice = p ++ (take (length r) bytes ++ drop (length bytes) r);
      count = length p + min (length bytes) (length r);
    }
unfolding put
put_behind p r [] = same_laid (ap (λ (l : List ℕ). p ++ (l ++ r)) (sym (take-nil (length r)))) (omega arith)
put_behind p [] (b ∷ bytes) =
    ap (λ (l : Laid). put l bytes) (byte_past p b) ∙ put_behind p [] bytes
    ∙ same_laid (ap (λ (l : List ℕ). p ++ l) (drop-nil (length bytes))) (omega arith)
put_behind p (x ∷ r) (b ∷ bytes) =
    ap (λ (l : Laid). put l bytes) (byte_behind p x r b) ∙ put_behind (p ++ (b ∷ [])) r bytes
    ∙ same_laid (append_snoc p b (take (length r) bytes ++ drop (length bytes) r))
    (omega (arith, length-append p (b ∷ [])))

-- bytes put from the front on are laid over the slice
pub puts_laid :
    {a bytes b : List ℕ} {i : ℕ} → Puts a 0 bytes b i
    → ◌≡◌ {A = Laid} (record { slice = b; count = i }) (laid a bytes)
unfolding laid
puts_laid {a = a} {bytes = bytes} p = p.all ∙ put_behind [] a bytes ∙ same_laid refl (omega arith)

-- the bytes laid stand at the front of the slice
pub laid_front :
    {after : List ℕ} {n : ℕ} (out bytes : List ℕ)
    → ◌≡◌ {A = Laid} (record { slice = after; count = n }) (laid out bytes) → (n ≤ length after) × (length after ≡
    length out)
unfolding laid
laid_front {after} {n} out bytes e =
    let count : n ≡ min (length bytes) (length out) = ap (λ (l : Laid). l.count) e in
    let size : length after ≡ length (take (length out) bytes ++ drop (length bytes) out) = ap (λ (l : Laid).
    length l.slice) e in
    let same = length-append (take (length out) bytes) (drop (length bytes) out) in
    let parts = length-take (length out) bytes in
    let rest = length-drop (length bytes) out in
    (omega (arith, count, size, same, parts, rest), omega (arith, size, same, parts, rest))

-- bytes at the front of a slice are laid over it: those at the front of another one that they stand in front of
pub front_laid :
    (t u file : List ℕ) (bytes : ℕ) → length file ≡ bytes → bytes ≤ length t
    → ◌≡◌ {A = Laid} (record { slice = file ++ drop bytes t; count = bytes }) (laid t (take bytes (file ++ drop
    bytes u)))
unfolding laid
front_laid t u file bytes l m =
    rw (take_at file (drop bytes u) bytes l, take_all (length t) file (omega arith), l)
    (ap (λ (n : ℕ). record { slice = file ++ drop bytes t; count = n }) (omega arith))
