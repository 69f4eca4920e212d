-- The ends of the code's paths.
use Rattle.std.specs.Prelude.{Result, Ok, Err, ⊤}
use mathlib.Core.Path.{◌≡◌, refl, sym, ap, ◌∙◌}
use mathlib.Core.Bool.{Bool, true, false, not, cond}
use mathlib.Core.List.{List, ◌++◌}
use Prim.Native.Nat.{ℕ, ◌-◌, ◌*◌, ◌≤◌, ◌<◌}
use native.Mathlib.Omega.{arith}
use borrow.Author.Tests.{lt-ltb, le-ltb}
use lib.Dec.{ltb}
use lib.ListN.{length, take, drop}
use Rattle.refusals.specs.declared.Refusal.{Refusal}
use Rattle.refusals.specs.Refusals.{keep_too_short, table_too_short, other_table, start_not_safe, start_pair_not_set}
use Rattle.systems.specs.Tests.{ones}
use Rattle.systems.specs.Definitions.{Signature}
use Rattle.systems.specs.Finite.{FiniteSystem, safe, safe_states, widest, cell}
use Rattle.bitmaps.specs.Packed.{bytes_for, packed}
use Rattle.tables_header.specs.Header.{header_bytes, table_bytes, fits}
use Rattle.tables_header.specs.Laws.{fits_length}
use Rattle.move_tables.specs.declared.Sides.{Sides}
use Rattle.tables_rows.specs.Raster.{set_at, denoted}
use Rattle.tables_check.specs.declared.FailedPair.{FailedPair}
use Rattle.tables_check.specs.declared.FailedPair.TheVariants.{NotAllowedAt, BrokenAt}
use Rattle.tables_check.specs.Judged.{pairs_judged}
use Rattle.tables_widest.specs.declared.WidestTable.{WidestTable}
use Rattle.tables_whole.specs.declared.TableFault.{TableFault}
use Rattle.tables_whole.specs.declared.TableFault.TheVariants.{StartNotSet}
use Rattle.tables_whole.specs.TableFile.{table_file}
use Rattle.tables_whole.specs.Answer.{answer_of, raster_answer, Makes}
use Rattle.tables_whole.specs.Exact.{raster_answered}
use Rattle.tables_whole.specs.Parts.{rest_of, raster_room}
use Rattle.move_tables.specs.Held.{Held}
use Rattle.tables_prepare.specs.Prepared.{Prepared}
use Rattle.tables_prepare.specs.Callers.{safe_left, prepared_systems}
use Rattle.tables.specs.Outcome.{Checked, scanned, check_systems, Widened, widest_refused, widest_systems}
use Rattle.tables.specs.Found.{refusal_of, check_of}
use Rattle.tables.specs.Slices.{Checks, Widens}

checked_of : (w ls rs : ℕ) (b : Bool) (f : Result ⊤ FailedPair) (m : ℕ)
    → check_of w ls rs (cond b (answer_of f m) (Err StartNotSet)) ≡ cond (not b)
    (Err (start_pair_not_set ls rs)) (scanned w m f)
unfolding refusal_of answer_of scanned
checked_of w ls rs true (Ok passed) m = refl
checked_of w ls rs true (Err (NotAllowedAt s t)) m = refl
checked_of w ls rs true (Err (BrokenAt c s t)) m = refl
checked_of w ls rs false f m = refl

cond_record : (b : Bool) (x y : Result ℕ Refusal) (keep : List ℕ)
    → ◌≡◌ {A = Checked} (record { answer = cond b x y; keep = keep }) (cond b (record { answer = x; keep = keep })
    (record { answer = y; keep = keep }))
cond_record true x y keep = refl
cond_record false x y keep = refl

abbrev pub checked : Result ℕ Refusal → List ℕ → Checked
checked answer keep = record { answer = answer; keep = keep }

abbrev pub widened : Result WidestTable Refusal → List ℕ → List ℕ → Widened
widened answer keep table = record { answer = answer; keep = keep; table = table }

-- the outcomes by the numbers of states and starts
module _ {A : Signature} (L R : FiniteSystem A) (keep table : List ℕ) where
  unfoldable check_by : ℕ → ℕ → ℕ → ℕ → Checked
  check_by n w ls rs =
      let kept = packed n (safe_states L) keep in
      let related = set_at w (drop (header_bytes w n) table) in
      let lowest = scanned w (ones (denoted n w (drop (header_bytes w n) table))) (pairs_judged L R related) in
      cond (ltb (length keep) (bytes_for n)) (checked (Err (keep_too_short (bytes_for n))) keep)
      (cond (not (fits w n table)) (checked (Err other_table) keep)
      (cond (not (safe L ls)) (checked (Err (start_not_safe ls)) kept)
      (cond (not (related ls rs)) (checked (Err (start_pair_not_set ls rs)) kept)
      (checked lowest kept))))

  unfoldable widest_by : ℕ → ℕ → ℕ → Widened
  widest_by n w ls =
      let kept = packed n (safe_states L) keep in
      let pairs = widest L R in
      cond (ltb (length keep) (bytes_for n)) (widest_refused (keep_too_short (bytes_for n)) keep table)
      (cond (ltb (length table) (table_bytes w n)) (widest_refused (table_too_short (table_bytes w n)) keep table)
      (cond (not (safe L ls)) (widest_refused (start_not_safe ls) kept table)
      (widened (Ok (record { count = ones pairs; start = cell L R pairs L.start R.start })) kept
      (table_file n w pairs ++ drop (table_bytes w n) table))))

module _ {A : Signature} {L R : FiniteSystem A} {sides : Sides} {inputs : List Bool} {lm rm lh rh : List ℕ}
    (D : Held L R sides inputs lm rm lh rh) where
  check_is : (keep table : List ℕ)
      → check_systems L R keep table ≡ check_by L R keep table sides.left_states sides.right_states sides.left_start
      sides.right_start
  unfolding check_systems check_by
  check_is keep table =
      ap (λ (x : ℕ). check_by L R keep table x R.size L.start R.start) D.left_size
      ∙ ap (λ (x : ℕ). check_by L R keep table sides.left_states x L.start R.start) D.right_size
      ∙ ap (λ (x : ℕ). check_by L R keep table sides.left_states sides.right_states x R.start) D.left_start
      ∙ ap (check_by L R keep table sides.left_states sides.right_states sides.left_start) D.right_start

  widest_is : (keep table : List ℕ) → widest_systems L R keep table ≡ widest_by L R keep table sides.left_states
      sides.right_states sides.left_start
  unfolding widest_systems widest_by
  widest_is keep table =
      ap (λ (x : ℕ). widest_by L R keep table x R.size L.start) D.left_size
      ∙ ap (λ (x : ℕ). widest_by L R keep table sides.left_states x L.start) D.right_size
      ∙ ap (widest_by L R keep table sides.left_states sides.right_states) D.left_start

  module _ {lm' keep keep' : List ℕ} {start : Bool} (P : Prepared sides inputs lh lm lm' keep keep' start) where
    is_kept : keep' ≡ packed sides.left_states (safe_states L) keep
    is_kept = (safe_left D lm' keep keep' start P).kept

    is_safe : (b : Bool) → start ≡ b → safe L sides.left_start ≡ b
    is_safe b s = ap (safe L) (sym D.left_start) ∙ sym (safe_left D lm' keep keep' start P).answer ∙ s

-- the raster behind the header of a table that fits
module _ (w n a : ℕ) (table : List ℕ) (e : a ≡ header_bytes w n) where
  pub raster_rest : take (length table - a) (drop a table) ≡ drop (header_bytes w n) table
  raster_rest = rest_of a table ∙ ap (λ (x : ℕ). drop x table) e

  module _ (b : Bool) (f : b ≡ fits w n table) (h : b ≡ true) where
    pub header_in : a ≤ length table
    unfolding table_bytes
    header_in = omega (arith, e, fits_length w n table (sym f ∙ h))

    pub raster_long : n * bytes_for w ≤ length (take (length table - a) (drop a table))
    raster_long = raster_room w n a table e (omega (arith, fits_length w n table (sym f ∙ h)))

-- keep and the table are long enough
not_short : {n needed k : ℕ} → needed ≡ n → needed ≤ k → ltb k n ≡ false
not_short {n} {needed} {k} z long = le-ltb k n (rw z at long)

is_short : {n needed k : ℕ} → needed ≡ n → k < needed → ltb k n ≡ true
is_short {n} {needed} {k} z short = lt-ltb k n (rw z at short)

-- the paths of the check
module _ {sides : Sides} {inputs : List Bool} {lm rm lh rh keep : List ℕ} (table : List ℕ) {needed : ℕ}
    (z : needed ≡ bytes_for sides.left_states) where
  pub check_keep_short : length keep < needed
      → Checks sides inputs lm rm lh rh keep table (checked (Err (keep_too_short needed)) keep)
  unfolding check_by
  check_keep_short h A L R D = rw z (rw (is_short z h) refl ∙ sym (check_is D keep table))

  module _ (long : needed ≤ length keep) {b : Bool} (g : b ≡ fits sides.right_states sides.left_states table) where
    pub check_other : b ≡ false → Checks sides inputs lm rm lh rh keep table (checked (Err other_table) keep)
    unfolding check_by
    check_other n A L R D =
        let k : fits sides.right_states sides.left_states table ≡ false = sym g ∙ n in
        rw (not_short z long, k) refl ∙ sym (check_is D keep table)

    module _ (n : b ≡ true) {lm' keep' : List ℕ} {start : Bool} (P : Prepared sides inputs lh lm lm' keep keep' start)
      where
        pub check_not_safe : start ≡ false
            → Checks sides inputs lm rm lh rh keep table (checked (Err (start_not_safe sides.left_start)) keep')
        unfolding check_by
        check_not_safe s A L R D =
            let fitting : fits sides.right_states sides.left_states table ≡ true = sym g ∙ n in
            rw (is_kept D P) (rw (not_short z long, fitting, is_safe D P false s) refl ∙ sym (check_is D keep table))

        pub check_scanned : {r : Result ℕ TableFault} {k : List ℕ} → start ≡ true
            → k ≡ drop (header_bytes sides.right_states sides.left_states) table
            → r ≡ raster_answer keep' rh lm' rm sides k
            → Checks sides inputs lm rm lh rh keep table
            (checked (check_of sides.right_states sides.left_start sides.right_start r) keep')
        unfolding check_by
        check_scanned {r} {k} s q e A L R D =
            let w = sides.right_states in
            let ls = sides.left_start in
            let rs = sides.right_start in
            let raster = drop (header_bytes w sides.left_states) table in
            let found = pairs_judged L R (set_at w raster) in
            let count = ones (denoted sides.left_states w raster) in
            let fitting : fits w sides.left_states table ≡ true = sym g ∙ n in
            let same : set_at w raster L.start R.start ≡ set_at w raster ls rs =
            ap (λ (x : ℕ). set_at w raster x R.start) D.left_start ∙ ap (set_at w raster ls) D.right_start in
            let answered : check_of w ls rs r ≡ cond (not (set_at w raster ls rs)) (Err (start_pair_not_set ls rs))
            (scanned w count found) =
            ap (check_of w ls rs) (e ∙ ap (raster_answer keep' rh lm' rm sides) q
            ∙ raster_answered L R (prepared_systems D lm' keep keep' start P (rw z at long)) raster
            ∙ ap (λ (x : Bool). cond x (answer_of found count) (Err StartNotSet)) same)
            ∙ checked_of w ls rs (set_at w raster ls rs) found count in
            rw (answered, is_kept D P)
            (cond_record (not (set_at w raster ls rs)) (Err (start_pair_not_set ls rs))
            (scanned w count found) (packed sides.left_states (safe_states L) keep)
            ∙ rw (not_short z long, fitting, is_safe D P true s) refl ∙ sym (check_is D keep table))

-- the paths of the widest table
module _ {sides : Sides} {inputs : List Bool} {lm rm lh rh keep table : List ℕ} {needed : ℕ}
    (y : needed ≡ bytes_for sides.left_states) where
  pub widest_keep_short : length keep < needed
      → Widens sides inputs lm rm lh rh keep table (widened (Err (keep_too_short needed)) keep table)
  unfolding widest_by
  widest_keep_short h A L R D = rw y (rw (is_short y h) refl ∙ sym (widest_is D keep table))

  module _ (long : needed ≤ length keep) {size : ℕ} (z : size ≡ table_bytes sides.right_states sides.left_states)
    where
      pub widest_table_short : length table < size
          → Widens sides inputs lm rm lh rh keep table (widened (Err (table_too_short size)) keep table)
      unfolding widest_by
      widest_table_short h A L R D =
          rw z (rw (not_short y long, is_short z h) refl ∙ sym (widest_is D keep table))

      module _ (room : size ≤ length table) {lm' keep' : List ℕ} {start : Bool}
          (P : Prepared sides inputs lh lm lm' keep keep' start) where
        pub widest_not_safe : start ≡ false
            → Widens sides inputs lm rm lh rh keep table (widened (Err (start_not_safe sides.left_start)) keep' table)
        unfolding widest_by
        widest_not_safe s A L R D =
            rw (is_kept D P) (rw (not_short y long, not_short z room, is_safe D P false s) refl
            ∙ sym (widest_is D keep table))

        pub widest_made : {table' : List ℕ} {made : WidestTable} → start ≡ true
            → Makes keep' rh lm' rm sides table table' made.count made.start
            → Widens sides inputs lm rm lh rh keep table (widened (Ok made) keep' table')
        unfolding widest_by
        widest_made {table'} {made} s M A L R D =
            let m = M A L R (prepared_systems D lm' keep keep' start P (rw y at long)) in
            let same : made ≡ record { count = ones (widest L R); start = cell L R (widest L R) L.start R.start } =
            rw (sym m.count_is, sym m.start_is) refl in
            rw (m.table_is, same, is_kept D P)
            (rw (not_short y long, not_short z room, is_safe D P true s) refl ∙ sym (widest_is D keep table))
