-- What the functions that put states into classes leave as it was, and what they change.
use Rattle.std.specs.Prelude.{◌≡◌, ◌⊎◌, false, ◌||◌, List, ℕ, ◌+◌, ◌*◌, ◌≤◌, ◌<◌, eqb, length, get_or}
use Rattle.bitmaps.specs.Packed.{bytes_for}
use Rattle.tables_shifts.specs.Shifts.{class_entries, class_at, mask_at, first_of, end_of, target_of, in_class}

-- nothing but the entries a to e of a slice has changed
pub record Only (a e : ℕ) (k k' : List ℕ) : Type 0 where
  pub sized : length k' ≡ length k
  pub same : (j : ℕ) → (j < a) ⊎ (e ≤ j) → get_or k' j 0 ≡ get_or k j 0

-- the entries j to e of a slice are those of f, and nothing else has changed
pub record Filled (f : ℕ → ℕ) (j e : ℕ) (k k' : List ℕ) : Type 0 where
  pub only : Only j e k k'
  pub is : (i : ℕ) → j ≤ i → i < e → get_or k' i 0 ≡ f i

-- nothing but step c has changed
pub record Behind (w c : ℕ) (classes masks classes' masks' : List ℕ) : Type 0 where
  pub numbers : Only (c * class_entries) ((c + 1) * class_entries) classes classes'
  pub bits : Only (mask_at w c 0) (mask_at w (c + 1) 0) masks masks'

-- nothing but class i of step c has changed
pub record Beside (w c i : ℕ) (classes masks classes' masks' : List ℕ) : Type 0 where
  pub numbers : Only (class_at c i 1) (class_at c (i + 1) 1) classes classes'
  pub bits : Only (mask_at w c i) (mask_at w c i + bytes_for w) masks masks'

-- class i of step c leads state t to v, and has no state
pub record Opened (w c i t v : ℕ) (classes masks classes' masks' : List ℕ) : Type 0 where
  pub beside : Beside w c i classes masks classes' masks'
  pub first : first_of classes' c i ≡ t
  pub target : target_of classes' c i ≡ v
  pub states : (x : ℕ) → x < w → in_class masks' w c i x ≡ false

-- class i of step c has state t as its last state
pub record Added (w c i t : ℕ) (classes masks classes' masks' : List ℕ) : Type 0 where
  pub beside : Beside w c i classes masks classes' masks'
  pub first : first_of classes' c i ≡ first_of classes c i
  pub target : target_of classes' c i ≡ target_of classes c i
  pub end : end_of classes' c i ≡ t + 1
  pub states : (x : ℕ) → x < w → in_class masks' w c i x ≡ (in_class masks w c i x || eqb x t)
