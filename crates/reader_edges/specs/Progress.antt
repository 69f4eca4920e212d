-- The items of an `assign` are read to their end: each takes bytes of the text, so the counter of `assigns_from` never
-- runs out.
use Rattle.std.specs.Prelude.{◌≡◌, Bool, true, false, List, ℕ, zero, suc, ◌<◌, Result, Ok, Err, IfOk, length, drop}
use Rattle.std.proofs.Common.{refl, arith}
use Rattle.std.proofs.Math.Dec.{eqb, ltb}
use Rattle.reader_record.specs.declared.Name.{Name}
use Rattle.reader_record.specs.declared.Assignment.{Assignment}
use Rattle.reader_tokens.specs.Kinds as kinds
use Rattle.reader_tokens.specs.Scan.{numeral_value}
use Rattle.reader_tokens.specs.Tokens.{token_at}
use Rattle.reader_parts.specs.declared.Fault.{Fault}
use Rattle.reader_parts.specs.Binds.{and_then, of_ok}
use Rattle.reader_parts.specs.Stages.{◌>>=◌, take, ahead}
use Rattle.reader_parts.specs.Names.{use_name}
use Rattle.reader_parts.specs.Slots.{first_clock}
use Rattle.reader_parts.specs.Progress.{Less, left, left_all, past_token, take_less, use_less}
use Rattle.reader_constraints.specs.Constraints.{in_ticks, constant_of, constant}
use Rattle.reader_edges.specs.declared.AssignRead.{AssignRead}
use Rattle.reader_edges.specs.Assigns.{with_assignment, assign_next, assigns_from, assign_items}
use Rattle.limits.specs.Limits.{clock_limit, largest_constant}

module _ (period : ℕ) (s : List ℕ) where
  constant_less : (least p : ℕ) → IfOk (constant period least s p) (λ r. Less s p r.end)
  unfolding constant constant_of
  constant_less least p =
      by (eqb (token_at s p).kind kinds.numeral) refl
      (ltb largest_constant (in_ticks period (numeral_value 0 (drop (token_at s p).place s)))) refl
      (ltb (in_ticks period (numeral_value 0 (drop (token_at s p).place s))) least) refl
    where
      by :
          (a : Bool) → eqb (token_at s p).kind kinds.numeral ≡ a
          → (b : Bool) → ltb largest_constant (in_ticks period (numeral_value 0 (drop (token_at s p).place s))) ≡ b
          → (c : Bool) → ltb (in_ticks period (numeral_value 0 (drop (token_at s p).place s))) least ≡ c
          → IfOk (constant period least s p) (λ r. Less s p r.end)
      by false e b f c g = rw e tt
      by true e true f c g = rw (e, f) tt
      by true e false f true g = rw (e, f, g) tt
      by true e false f false g = rw (e, f, g) (past_token s p kinds.numeral refl e)

  module _ (names : List Name) where
    pub item_less : (p : ℕ) → IfOk (assign_next period s p names) (λ r. Less s p r.end)
    unfolding assign_next
    item_less p =
        and_then (use_name s p names first_clock clock_limit false) _ (λ u. Less s p u.end) (λ r. Less s p r.end)
        (use_less s names first_clock clock_limit false p)
        (λ u h. and_then (take s u.end kinds.becomes) _ (Less s u.end) (λ r. Less s p r.end)
        (take_less s u.end kinds.becomes refl)
        (λ a k. and_then (constant period 0 s a) _ (λ g. Less s a g.end) (λ r. Less s p r.end)
        (constant_less 0 a) (λ g l. omega (arith, h, k, l))))

    -- an item and the comma after it
    pub comma_less : (p q : ℕ) (x : AssignRead) → Ok x ≡ assign_next period s p names → Ok q ≡ take s x.end kinds.comma
        → Less s p q
    comma_less p q x e h =
        let item : Less s p x.end = of_ok (λ (r : AssignRead). Less s p r.end) (item_less p) e in
        let comma : Less s x.end q = of_ok (Less s x.end) (take_less s x.end kinds.comma refl) h in
        omega (arith, item, comma)

    -- the counter does not matter where it is above the bytes left
    pub counter_free : (m n p : ℕ) (before : List Assignment) → left s p < m → left s p < n
        → assigns_from period m s names p before ≡ assigns_from period n s names p before
    unfolding assigns_from
    counter_free zero n p before h k = absurd (omega arith)
    counter_free (suc m) zero p before h k = absurd (omega arith)
    counter_free (suc m) (suc n) p before h k =
        item (λ q all. counter_free m n q all) (assign_next period s p names) refl
      where
        More : ℕ → ℕ → Type 0
        More m n = (q : ℕ) (all : List Assignment) → left s q < m → left s q < n
            → assigns_from period m s names q all ≡ assigns_from period n s names q all

        comma : More m n → (x : AssignRead) → Ok x ≡ assign_next period s p names
            → (t : Bool) → ahead s x.end kinds.comma ≡ t → (c : Result ℕ Fault) → c ≡ take s x.end kinds.comma
            → assigns_from period (suc m) s names p before ≡ assigns_from period (suc n) s names p before
        comma again x e false f c g = rw (← e, f) refl
        comma again x e true f (Err d) g = rw (← e, f, ← g) refl
        comma again x e true f (Ok q) g =
            let fewer : Less s p q = comma_less p q x e g in
            rw (← e, f, ← g) (again q (with_assignment before x.clock x.value) (omega arith) (omega arith))

        item : More m n → (a : Result AssignRead Fault) → a ≡ assign_next period s p names
            → assigns_from period (suc m) s names p before ≡ assigns_from period (suc n) s names p before
        item again (Err d) e = rw (← e) refl
        item again (Ok x) e = comma again x e (ahead s x.end kinds.comma) refl (take s x.end kinds.comma) refl

    module _ (p : ℕ) (before : List Assignment) where
      -- an item that is refused
      pub items_none : {f : Fault} → Err f ≡ assign_next period s p names → assign_items period s names p before ≡ Err f
      unfolding assign_items assigns_from
      items_none e = rw (← e)

      module _ {x : AssignRead} (e : Ok x ≡ assign_next period s p names) where
        -- an item with a comma after it: the other items follow
        pub items_more : ahead s x.end kinds.comma ≡ true → assign_items period s names p before
            ≡ (take s x.end kinds.comma
            >>= λ q. assign_items period s names q (with_assignment before x.clock x.value))
        unfolding assign_items assigns_from
        items_more h = by (take s x.end kinds.comma) refl
          where
            by : (c : Result ℕ Fault) → c ≡ take s x.end kinds.comma → assign_items period s names p before
                ≡ (take s x.end kinds.comma
                >>= λ q. assign_items period s names q (with_assignment before x.clock x.value))
            by (Err d) g = rw (← e, h, ← g) refl
            by (Ok q) g =
                let fewer : Less s p q = comma_less p q x e g in
                rw (← e, h, ← g) (counter_free (length s) (suc (length s)) q (with_assignment before x.clock x.value)
                (omega (arith, left_all s p)) (omega (arith, left_all s p)))

        -- the last item: `;` follows
        pub items_last : ahead s x.end kinds.comma ≡ false → assign_items period s names p before
            ≡ (take s x.end kinds.semicolon
            >>= λ q. Ok (record { assignments = with_assignment before x.clock x.value; end = q }))
        unfolding assign_items assigns_from
        items_last h = rw (← e, h)
