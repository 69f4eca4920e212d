-- The assignments that were read before a fault, item by item; their counter never runs out either.
use Rattle.std.specs.Prelude.{◌≡◌, Bool, true, false, List, ℕ, zero, suc, ◌<◌, Result, Ok, Err, length}
use Rattle.std.proofs.Common.{refl, arith, sym}
use Rattle.reader_record.specs.declared.Name.{Name}
use Rattle.reader_record.specs.declared.Assignment.{Assignment}
use Rattle.reader_tokens.specs.Kinds as kinds
use Rattle.reader_parts.specs.declared.Fault.{Fault}
use Rattle.reader_parts.specs.declared.Use.{Use}
use Rattle.reader_parts.specs.Binds.{of_ok}
use Rattle.reader_parts.specs.Stages.{take, ahead}
use Rattle.reader_parts.specs.Names.{use_name}
use Rattle.reader_parts.specs.Slots.{first_clock}
use Rattle.reader_parts.specs.Facts.{use_small, ahead_no_fault}
use Rattle.reader_parts.specs.Progress.{Less, left, left_all}
use Rattle.reader_edges.specs.declared.AssignRead.{AssignRead}
use Rattle.reader_edges.specs.Assigns.{with_assignment, assign_next}
use Rattle.reader_edges.specs.SoFar.{assign_so_far, assigns_so_far_from, assign_items_so_far}
use Rattle.reader_edges.specs.Progress.{comma_less}
use Rattle.limits.specs.Limits.{clock_limit}

module _ (period : ℕ) (s : List ℕ) (names : List Name) where
  -- the clock of an assignment is one that a text has room for, also where it has a fault
  pub stopped_small : (p : ℕ) → (assign_so_far period s (Ok p) names).clock < clock_limit
  unfolding assign_so_far
  stopped_small p = by (use_name s p names first_clock clock_limit false) refl
    where
      by : (a : Result Use Fault) → a ≡ use_name s p names first_clock clock_limit false
          → (assign_so_far period s (Ok p) names).clock < clock_limit
      by (Ok u) e = rw (← e)
          (of_ok (λ (v : Use). v.number < clock_limit) (use_small s names first_clock clock_limit false p) e)
      by (Err f) e = rw (← e) (omega arith)

  -- the counter does not matter where it is above the bytes left
  pub so_far_free : (m n p : ℕ) (before : List Assignment) → left s p < m → left s p < n
      → assigns_so_far_from period m s names (Ok p) before ≡ assigns_so_far_from period n s names (Ok p) before
  unfolding assigns_so_far_from
  so_far_free zero n p before h k = absurd (omega arith)
  so_far_free (suc m) zero p before h k = absurd (omega arith)
  so_far_free (suc m) (suc n) p before h k =
      item (λ q all. so_far_free m n q all) (assign_next period s p names) refl
    where
      More : ℕ → ℕ → Type 0
      More m n = (q : ℕ) (all : List Assignment) → left s q < m → left s q < n
          → assigns_so_far_from period m s names (Ok q) all ≡ assigns_so_far_from period n s names (Ok q) all

      comma : More m n → (x : AssignRead) → Ok x ≡ assign_next period s p names
          → (t : Bool) → ahead s x.end kinds.comma ≡ t → (c : Result ℕ Fault) → c ≡ take s x.end kinds.comma
          → assigns_so_far_from period (suc m) s names (Ok p) before
          ≡ assigns_so_far_from period (suc n) s names (Ok p) before
      comma again x e false f c g = rw (← e, f) refl
      comma again x e true f (Err d) g = absurd (ahead_no_fault s (Ok x.end) kinds.comma f (sym g))
      comma again x e true f (Ok q) g =
          let fewer : Less s p q = comma_less period s names p q x e g in
          rw (← e, f, ← g) (again q (with_assignment before x.clock x.value) (omega arith) (omega arith))

      item : More m n → (a : Result AssignRead Fault) → a ≡ assign_next period s p names
          → assigns_so_far_from period (suc m) s names (Ok p) before
          ≡ assigns_so_far_from period (suc n) s names (Ok p) before
      item again (Err d) e = rw (← e) refl
      item again (Ok x) e = comma again x e (ahead s x.end kinds.comma) refl (take s x.end kinds.comma) refl

  module _ (p : ℕ) (before : List Assignment) where
    -- an item that is refused: what was read of it counts
    pub so_far_none : {f : Fault} → Err f ≡ assign_next period s p names
        → assign_items_so_far period s names (Ok p) before
        ≡ with_assignment before (assign_so_far period s (Ok p) names).clock (assign_so_far period s (Ok p) names).value
    unfolding assign_items_so_far assigns_so_far_from
    so_far_none e = rw (← e) refl

    module _ {x : AssignRead} (e : Ok x ≡ assign_next period s p names) where
      -- an item with a comma after it: the other items follow
      pub so_far_more : {q : ℕ} → ahead s x.end kinds.comma ≡ true → Ok q ≡ take s x.end kinds.comma
          → assign_items_so_far period s names (Ok p) before
          ≡ assign_items_so_far period s names (Ok q) (with_assignment before x.clock x.value)
      unfolding assign_items_so_far assigns_so_far_from
      so_far_more {q} h g =
          let fewer : Less s p q = comma_less period s names p q x e g in
          rw (← e, h, ← g) (so_far_free (length s) (suc (length s)) q (with_assignment before x.clock x.value)
          (omega (arith, left_all s p)) (omega (arith, left_all s p)))

      -- the last item
      pub so_far_last : ahead s x.end kinds.comma ≡ false
          → assign_items_so_far period s names (Ok p) before ≡ with_assignment before x.clock x.value
      unfolding assign_items_so_far assigns_so_far_from
      so_far_last h = rw (← e, h) refl
