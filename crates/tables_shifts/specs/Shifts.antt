-- Classes of a step: the states that the step shifts alike. They are kept in two slices: the numbers of each step, and
-- for each class a mask, the bits of its states.
use Rattle.std.specs.Prelude.{◌≡◌, Bool, true, List, ℕ, ◌+◌, ◌-◌, ◌*◌, ◌≤◌, ◌<◌, length, get_or}
use Rattle.bitmaps.specs.Bits.{bit_at}
use Rattle.bitmaps.specs.Packed.{bytes_for}
use Rattle.move_tables.specs.Moves.{no_move}
use Rattle.tables_runs.specs.Runs.{goes}

-- the classes of a step at most
abbrev pub class_limit : ℕ
class_limit = 16

-- the numbers of a class: 1 is its first state, 2 the end behind its last one, 3 the target of the first
abbrev pub class_numbers : ℕ
class_numbers = 3

-- the numbers of a step: how many classes, then those of each
abbrev pub class_entries : ℕ
class_entries = 1 + class_numbers * class_limit

abbrev pub count_of : List ℕ → ℕ → ℕ
count_of classes c = get_or classes (c * class_entries) 0

-- where number n of class i of step c stands
abbrev pub class_at : ℕ → ℕ → ℕ → ℕ
class_at c i n = c * class_entries + class_numbers * i + n

abbrev pub first_of : List ℕ → ℕ → ℕ → ℕ
first_of classes c i = get_or classes (class_at c i 1) 0

abbrev pub end_of : List ℕ → ℕ → ℕ → ℕ
end_of classes c i = get_or classes (class_at c i 2) 0

abbrev pub target_of : List ℕ → ℕ → ℕ → ℕ
target_of classes c i = get_or classes (class_at c i 3) 0

-- where the mask of class i of step c begins
abbrev pub mask_at : ℕ → ℕ → ℕ → ℕ
mask_at w c i = (c * class_limit + i) * bytes_for w

-- state t is in class i of step c
abbrev pub in_class : List ℕ → ℕ → ℕ → ℕ → ℕ → Bool
in_class masks w c i t = bit_at masks (8 * mask_at w c i + t)

-- where class i of step c leads the state t
abbrev pub leads : List ℕ → ℕ → ℕ → ℕ → ℕ
leads classes c i t = target_of classes c i + (t - first_of classes c i)

-- class i of step c: its states lie before t, and it leads each of them where the step does
pub record Class (m : List ℕ) (w steps : ℕ) (classes masks : List ℕ) (c i t : ℕ) : Type 0 where
  pub some : first_of classes c i < end_of classes c i
  pub inside : end_of classes c i ≤ t
  pub fits : leads classes c i (end_of classes c i) ≤ w
  pub states : (x : ℕ) → x < w → in_class masks w c i x ≡ true → (first_of classes c i ≤ x)
      × ((x < end_of classes c i) × (goes m steps c x ≡ leads classes c i x))

-- the states before t that have a move by step c, in k classes
pub record Classed (m : List ℕ) (w steps : ℕ) (classes masks : List ℕ) (c k t : ℕ) : Type 0 where
  pub few : k ≤ class_limit
  pub class : (i : ℕ) → i < k → Class m w steps classes masks c i t
  pub all : (x : ℕ) → x < t → (goes m steps c x ≡ no_move → ⊥) → (i : ℕ) × ((i < k) × (in_class masks w c i x ≡ true))

-- room for the classes of so many steps
pub record Room (w steps : ℕ) (classes masks : List ℕ) : Type 0 where
  pub numbers : steps * class_entries ≤ length classes
  pub bits : steps * class_limit * bytes_for w ≤ length masks

-- the classes of every step that has any
pub record Shifts (m : List ℕ) (w steps : ℕ) (classes masks : List ℕ) : Type 0 where
  pub room : Room w steps classes masks
  pub step : (c : ℕ) → c < steps → 0 < count_of classes c → Classed m w steps classes masks c (count_of classes c) w
