-- Tick lengths are as specs/Lengths.antt asks: 24 is judged first, and no later judgement gives it.
use Rattle.std.specs.Prelude.{◌≡◌, Bool, not, ◌||◌, List, eqb, length, drop, Some, None, Result, Ok, Err, ⊤}
use Rattle.std.specs.Prelude as prelude
use Rattle.std.proofs.Math.Path.{refl, ap}
use Rattle.std.proofs.Common.{sym, subst, ◌∙◌, arith}
use Rattle.std.proofs.Math.Bool.{true, false}
use Rattle.std.proofs.Math.Option.{Option, none, some}
use Prim.Native.Nat.{ℕ, ◌*◌, ◌≤◌}
use Rattle.std.proofs.Math.Dec.{ltb}
use Rattle.limits.specs.Limits.{largest_text, tick_allowed, TickLength}
use Rattle.limits.specs.Laws.{allowed_length, length_allowed}
use Rattle.refusals.specs.declared.File.{File}
use Rattle.refusals.specs.declared.File.TheVariants.{Left, Right}
use Rattle.refusals.specs.declared.Refusal.{Refusal}
use Rattle.refusals.specs.declared.Refusal.TheVariants.{TextTooLong, UnmatchedChannel}
use Rattle.refusals.specs.declared.Refusal.TheVariants as refusal
use Rattle.refusals.specs.Refusals.{code, in_file, keep_too_short, table_too_short, queue_too_short, other_table, start_not_safe, start_pair_not_set, pair_not_allowed, rule_broken, run_too_short, tick_out_of_range, limit_exceeded, out_too_short}
use Rattle.refusals.specs.Answers.{answer_of}
use Rattle.systems.specs.Bools.{none_some}
use Rattle.systems.specs.Definitions.{Signature}
use Rattle.systems.specs.Finite as finite
use Rattle.systems.specs.Finite.{FiniteSystem}
use Rattle.reader_record.specs.declared.Text.{Text}
use Rattle.reader.specs.Reading as reader
use Rattle.reader_formed.proofs.Cases.{either}
use Rattle.reader_constraints.proofs.Ticks.{ticks_below, ticks_above, one_millisecond}
use Rattle.reachable.specs.declared.Finding.{Finding}
use Rattle.reachable.specs.declared.Finding.TheVariants.{OutputBesideTick, NeitherPossible}
use Rattle.bitmaps.specs.Packed.{bytes_for}
use Rattle.clocks.specs.States.{state_count}
use Rattle.tables_header.specs.Header.{header_bytes, table_bytes, fits}
use Rattle.clocks_read.specs.declared.Reading.{Reading}
use Rattle.clocks_read.specs.Reading.{parsed_reading, read_outcome, NothingRead}
use Rattle.pairing.specs.Channels as channels
use Rattle.two_texts.specs.Two.{text_of, tick_judged, too_long_in, refused_in, refused_pairing, or_else, texts_judged, channels_judged, two_judged, left_system, right_system, judged_by}
use Rattle.two_texts.proofs.Laws.{compared, judged_by_some}
use Rattle.safe_states.specs.Outcome as safe
use Rattle.safe_states.specs.Outcome.{kept_outcome, found_outcome, safe_outcome}
use Rattle.implementation_check.proofs.Codes.{CodeAt, reading_codes}
use Rattle.implementation_check.specs.Outcome as checking
use Rattle.implementation_check.specs.Outcome.{found_answer, text_finding, implementation_outcome}
use Rattle.search.specs.Outcome as search
use Rattle.search.specs.Outcome.{search_systems}
use Rattle.tables.specs.Outcome.{Checked, scanned, check_systems, Widened, widest_systems}
use Rattle.tables_rows.specs.Raster.{set_at}
use Rattle.tables_check.specs.declared.FailedPair.{FailedPair}
use Rattle.tables_check.specs.declared.FailedPair.TheVariants.{NotAllowedAt, BrokenAt}
use Rattle.two_operations.specs.Outcome.{search_outcome, check_outcome, widest_outcome}
use Rattle.joining.specs.Outcome as joining
use Rattle.joining.specs.Outcome.{within_limits, laid_text, record_outcome, joined_record, joined_bytes, join_outcome}
use Rattle.guarantees.proofs.Setting.{tick_is_allowed}
use Rattle.guarantees.specs.Lengths.{TicksDemand, LengthRefused, LengthPassed, LengthDemand, WithoutTick}

pub ticks_promised : TicksDemand
ticks_promised = record {
  nearest = λ period c h. record { below = ticks_below period c; above = ticks_above period c h };
  one = one_millisecond;
}

-- a tick length that is not allowed
module _ (period : ℕ) (not_allowed : tick_allowed period ≡ false) where
  parsed_refused : (s : List ℕ) → reader.read_text period s ≡ Err (tick_out_of_range period)
  unfolding reader.read_text
  parsed_refused s = rw not_allowed

  read_refused : (s : List ℕ) → read_outcome period s ≡ Err (tick_out_of_range period)
  unfolding read_outcome parsed_reading
  read_refused s = ap parsed_reading (parsed_refused s)

  nothing_read : (s : List ℕ) → NothingRead (read_outcome period s)
  nothing_read s = rw (read_refused s) (refl, refl)

  two_refused : (left right : List ℕ) → two_judged period left right ≡ some (tick_out_of_range period)
  unfolding two_judged texts_judged tick_judged or_else
  two_refused left right = rw not_allowed

  length_refused : LengthRefused period
  unfolding safe_outcome safe.answered implementation_outcome checking.answered search_outcome check_outcome
      widest_outcome join_outcome joining.refused
  length_refused = record {
    read = λ s. (read_refused s, nothing_read s);
    safe_states = λ s keep. ap (λ (r : Result Reading Refusal). safe.answered r keep) (read_refused s);
    implementation = λ s. ap checking.answered (read_refused s);
    search = λ left right keep back line run. judged_by_some (two_judged period left right) _ _ _
        (two_refused left right);
    check = λ left right keep table. judged_by_some (two_judged period left right) _ _ _ (two_refused left right);
    widest = λ left right keep table. judged_by_some (two_judged period left right) _ _ _ (two_refused left right);
    join = λ left right out. judged_by_some (two_judged period left right) _ _ _ (two_refused left right);
  }

-- the last code before 24, of those that the operations give later
abbrev last : ℕ
last = 23

-- an answer that is no refusal by a later code
Earlier : {A : Type 0} → Result A Refusal → Type 0
Earlier answer = (r : Refusal) → answer ≡ Err r → code r ≤ last

without_tick : {A : Type 0} (answer : Result A Refusal) → Earlier answer → WithoutTick answer
unfolding Earlier
without_tick answer h file p e = omega (arith, h (refusal.TickOutOfRange file p) e)

earlier_ok : {A : Type 0} (a : A) → Earlier (Ok a)
unfolding Earlier
earlier_ok a r e = let z : ◌≡◌ {A = ℕ} 0 1 = cc in absurd (omega arith)

earlier_err : (A : Type 0) (f : Refusal) → code f ≤ last → Earlier {A = A} (Err f)
unfolding Earlier
earlier_err A f h r e =
    let z : f ≡ r = cc in
    omega (arith, h, ap code z)

-- a judgement that finds none
EarlierFound : Option Refusal → Type 0
EarlierFound o = (r : Refusal) → o ≡ some r → code r ≤ last

found_none : EarlierFound none
unfolding EarlierFound
found_none r e = none_some r e

found_some : (f : Refusal) → code f ≤ last → EarlierFound (some f)
unfolding EarlierFound
found_some f h r e =
    let z : f ≡ r = cc in
    omega (arith, h, ap code z)

-- the file mark leaves the code
same_code : (file : File) (f : Refusal) → code (in_file file f) ≡ code f
same_code file (refusal.TextTooLong _) = refl
same_code file (refusal.Misfit _ place) = refl
same_code file (refusal.NameTooLong _ place) = refl
same_code file (refusal.DeclaredBefore _ place) = refl
same_code file (refusal.UnknownName _ place) = refl
same_code file (refusal.ConstantTooLarge _ place) = refl
same_code file (refusal.TooManyItems _ place) = refl
same_code file (refusal.OtherMark _ place) = refl
same_code file (refusal.TooManyStates _ states) = refl
same_code file (refusal.InputWithoutMove _ state channel) = refl
same_code file (refusal.TwoEdges _ state channel) = refl
same_code file (refusal.UnmatchedChannel _ channel) = refl
same_code file (refusal.KeepTooShort _ bytes) = refl
same_code file (refusal.TableTooShort _ bytes) = refl
same_code file (refusal.QueueTooShort _ entries) = refl
same_code file (refusal.OtherTable _) = refl
same_code file (refusal.StartNotSafe _ start) = refl
same_code file (refusal.StartPairNotSet _ s t) = refl
same_code file (refusal.PairNotAllowed _ s t) = refl
same_code file (refusal.RuleBroken _ step pair) = refl
same_code file (refusal.RunTooShort _ steps) = refl
same_code file (refusal.OutputBesideTick _ state channel) = refl
same_code file (refusal.NeitherPossible _ state) = refl
same_code file (refusal.TickOutOfRange _ period) = refl
same_code file (refusal.LimitExceeded _) = refl
same_code file (refusal.OutTooShort _ bytes) = refl

-- the judgement that comes first
or_earlier : (a b : Option Refusal) → EarlierFound a → EarlierFound b → EarlierFound (or_else a b)
unfolding or_else
or_earlier none b p q = q
or_earlier (some r) b p q = p

-- an allowed tick length
module _ (period : ℕ) (allowed : tick_allowed period ≡ true) where
  read_early : (s : List ℕ) (f : Refusal) → answer_of (read_outcome period s) ≡ Err f → code f ≤ last
  read_early s f e =
      let h : CodeAt true (code f) = subst (λ (b : Bool). CodeAt b (code f)) allowed (reading_codes period s f e) in
      omega (arith, h)

  -- what goes by the answer of reading
  by_reading : (s : List ℕ) (P : Result Reading Refusal → Type 0) → ((f : Refusal) → code f ≤ last → P (Err f))
      → ((r : Reading) → P (Ok r)) → P (read_outcome period s)
  by_reading s P refused accepted = go (read_outcome period s) refl
    where
      go : (v : Result Reading Refusal) → read_outcome period s ≡ v → P v
      go (Ok r) e = accepted r
      go (Err f) e = refused f (read_early s f (ap answer_of e))

  read_passed : (s : List ℕ) → Earlier (read_outcome period s)
  read_passed s = by_reading s Earlier (earlier_err _) earlier_ok

  kept_earlier : (t : Text) (keep : List ℕ) → Earlier (kept_outcome t keep).answer
  unfolding kept_outcome found_outcome
  kept_earlier t keep = go (ltb (length keep) (bytes_for (state_count t))) refl
    where
      go : (b : Bool) → ltb (length keep) (bytes_for (state_count t)) ≡ b → Earlier (kept_outcome t keep).answer
      go true e = rw (e, kept_outcome) (earlier_err _ (keep_too_short (bytes_for (state_count t))) (omega arith))
      go false e = rw (e, kept_outcome) (earlier_ok _)

  safe_passed : (s keep : List ℕ) → Earlier (safe_outcome period s keep).answer
  unfolding safe_outcome safe.answered
  safe_passed s keep =
      by_reading s (λ (r : Result Reading Refusal). Earlier (safe.answered r keep).answer) (earlier_err _)
      (λ r. kept_earlier r.text keep)

  found_earlier : (f : prelude.Option Finding) → Earlier (found_answer f)
  unfolding found_answer checking.refusal_of
  found_earlier None = earlier_ok tt
  found_earlier (Some (OutputBesideTick s c)) = earlier_err _ _ (omega arith)
  found_earlier (Some (NeitherPossible s)) = earlier_err _ _ (omega arith)

  implementation_passed : (s : List ℕ) → Earlier (implementation_outcome period s)
  unfolding implementation_outcome checking.answered
  implementation_passed s =
      by_reading s (λ (r : Result Reading Refusal). Earlier (checking.answered r)) (earlier_err _)
      (λ r. found_earlier (text_finding r.text))

  -- codes 1 to 12 of two texts
  long_earlier : (file : File) (s : List ℕ) → EarlierFound (too_long_in file s)
  unfolding too_long_in
  long_earlier file s = either EarlierFound (ltb largest_text (length s))
      (found_some (TextTooLong file) (omega arith)) found_none

  in_file_code : (file : File) (f : Refusal) → code f ≤ last → code (in_file file f) ≤ last
  in_file_code file f h = omega (arith, same_code file f, h)

  refused_earlier : (file : File) (s : List ℕ) → EarlierFound (refused_in file (answer_of (read_outcome period s)))
  unfolding refused_in
  refused_earlier file s =
      by_reading s (λ (r : Result Reading Refusal). EarlierFound (refused_in file (answer_of r)))
      (λ f h. found_some (in_file file f) (in_file_code file f h)) (λ r. found_none)

  pairing_earlier : (left : List ℕ) (l : Text) (right : List ℕ) (r : Text)
      → EarlierFound (refused_pairing (channels.unmatched left l right r))
  unfolding channels.unmatched channels.verdict refused_pairing
  pairing_earlier left l right r =
      either P (eqb c 0) (either P (eqb d 0) found_none
      (found_some (UnmatchedChannel Right d) (omega arith)))
      (found_some (UnmatchedChannel Left c) (omega arith))
    where
      c : ℕ
      c = channels.first_unmatched left l right r

      d : ℕ
      d = channels.first_unmatched right r left l

      P : Result ⊤ Refusal → Type 0
      P m = EarlierFound (refused_pairing m)

  judged_earlier : (left right : List ℕ) → EarlierFound (two_judged period left right)
  unfolding two_judged texts_judged channels_judged tick_judged
  judged_earlier left right =
      or_earlier _ _
      (or_earlier _ _ (rw allowed found_none) (or_earlier _ _ (long_earlier Left left)
      (or_earlier _ _ (long_earlier Right right)
      (or_earlier _ _ (refused_earlier Left left) (refused_earlier Right right)))))
      (pairing_earlier left (text_of period left) right (text_of period right))

  -- an outcome by the judgement of two texts
  by_judged : {X : Type 0} (P : X → Type 0) (o : Option Refusal) (refused : Refusal → X) (accepted : none ≡ o → X)
      → EarlierFound o → ((f : Refusal) → code f ≤ last → P (refused f)) → ((e : none ≡ o) → P (accepted e))
      → P (judged_by o refused accepted)
  unfolding judged_by EarlierFound
  by_judged P none refused accepted h r a = a refl
  by_judged P (some f) refused accepted h r a = r f (h f refl)

  module _ {A : Signature} (L R : FiniteSystem A) (keep : List ℕ) where
    searched : (back line : ℕ) (run : List ℕ) → Earlier (search_systems L R keep back line run).answer
    unfolding search_systems
    searched back line run =
        either P (ltb (length keep) (bytes_for L.size))
        (earlier_err _ (keep_too_short (bytes_for L.size)) (omega arith))
        (either P (ltb back (L.size * R.size) || ltb line (L.size * R.size))
        (earlier_err _ (queue_too_short (L.size * R.size)) (omega arith))
        (either P (not (finite.safe L L.start)) (earlier_err _ (start_not_safe L.start) (omega arith))
        (either P (ltb (length run) (length (finite.search_run L R)))
        (earlier_err _ (run_too_short (length (finite.search_run L R))) (omega arith)) (earlier_ok _))))
      where
        P : search.Outcome → Type 0
        P o = Earlier o.answer

    scanned_earlier : (width count : ℕ) (f : Result ⊤ FailedPair) → Earlier (scanned width count f)
    unfolding scanned
    scanned_earlier width count (Ok passed) = earlier_ok count
    scanned_earlier width count (Err (NotAllowedAt s t)) = earlier_err _ (pair_not_allowed s t) (omega arith)
    scanned_earlier width count (Err (BrokenAt step s t)) = earlier_err _ (rule_broken width step s t) (omega arith)

    checked_earlier : (table : List ℕ) → Earlier (check_systems L R keep table).answer
    unfolding check_systems
    checked_earlier table =
        either P (ltb (length keep) (bytes_for L.size))
        (earlier_err _ (keep_too_short (bytes_for L.size)) (omega arith))
        (either P (not (fits R.size L.size table)) (earlier_err _ other_table (omega arith))
        (either P (not (finite.safe L L.start)) (earlier_err _ (start_not_safe L.start) (omega arith))
        (either P (not (set_at R.size (drop (header_bytes R.size L.size) table) L.start R.start))
        (earlier_err _ (start_pair_not_set L.start R.start) (omega arith)) (scanned_earlier _ _ _))))
      where
        P : Checked → Type 0
        P o = Earlier o.answer

    widened_earlier : (table : List ℕ) → Earlier (widest_systems L R keep table).answer
    unfolding widest_systems
    widened_earlier table =
        either P (ltb (length keep) (bytes_for L.size))
        (earlier_err _ (keep_too_short (bytes_for L.size)) (omega arith))
        (either P (ltb (length table) (table_bytes R.size L.size))
        (earlier_err _ (table_too_short (table_bytes R.size L.size)) (omega arith))
        (either P (not (finite.safe L L.start))
        (earlier_err _ (start_not_safe L.start) (omega arith)) (earlier_ok _)))
      where
        P : Widened → Type 0
        P o = Earlier o.answer

  module _ (left right keep : List ℕ) where
    search_passed : (back line : ℕ) (run : List ℕ)
        → Earlier (search_outcome period left right keep back line run).answer
    unfolding search_outcome
    search_passed back line run =
        by_judged (λ (o : search.Outcome). Earlier o.answer) (two_judged period left right) _ _
        (judged_earlier left right) (earlier_err _)
        (λ e. searched (left_system period (compared period left right e))
        (right_system period (compared period left right e))
        keep back line run)

    check_passed : (table : List ℕ) → Earlier (check_outcome period left right keep table).answer
    unfolding check_outcome
    check_passed table =
        by_judged (λ (o : Checked). Earlier o.answer) (two_judged period left right) _ _
        (judged_earlier left right) (earlier_err _)
        (λ e. checked_earlier (left_system period (compared period left right e))
        (right_system period (compared period left right e)) keep table)

    widest_passed : (table : List ℕ) → Earlier (widest_outcome period left right keep table).answer
    unfolding widest_outcome
    widest_passed table =
        by_judged (λ (o : Widened). Earlier o.answer) (two_judged period left right) _ _
        (judged_earlier left right) (earlier_err _)
        (λ e. widened_earlier (left_system period (compared period left right e))
        (right_system period (compared period left right e)) keep table)

  -- 25 and 26 are none of these, but not 24 either
  other_code : {A : Type 0} (f : Refusal) → (code f ≡ code (tick_out_of_range 0) → ⊥)
      → WithoutTick {A = A} (Err f)
  other_code f h file p e =
      let z : f ≡ refusal.TickOutOfRange file p = cc in
      h (ap code z)

  record_passed : (t : Text) (z out : List ℕ)
      → WithoutTick (record_outcome t z out).answer
  unfolding record_outcome laid_text joining.refused
  record_passed t z out =
      either P (within_limits t z)
      (either P (ltb (length out) (length z)) (other_code (out_too_short (length z)) (λ e. omega arith))
      (without_tick (Ok (length z)) (earlier_ok (length z))))
      (other_code limit_exceeded (λ e. omega arith))
    where
      P : joining.Outcome → Type 0
      P o = WithoutTick o.answer

  join_passed : (left right out : List ℕ)
      → WithoutTick (join_outcome period left right out).answer
  unfolding join_outcome joining.refused
  join_passed left right out =
      by_judged (λ (o : joining.Outcome). WithoutTick o.answer)
      (two_judged period left right) _ _ (judged_earlier left right)
      (λ f h. without_tick (Err f) (earlier_err _ f h))
      (λ e. record_passed (joined_record period left right) (joined_bytes period left right) out)

  length_passed : LengthPassed period
  length_passed = record {
    read = λ s. without_tick _ (read_passed s);
    safe_states = λ s keep. without_tick _ (safe_passed s keep);
    implementation = λ s. without_tick _ (implementation_passed s);
    search = λ left right keep back line run. without_tick _ (search_passed left right keep back line run);
    check = λ left right keep table. without_tick _ (check_passed left right keep table);
    widest = λ left right keep table. without_tick _ (widest_passed left right keep table);
    join = join_passed;
  }

-- codes 24 and 1 to 12 of two texts are 24 or lower
pub two_codes : (period : ℕ) (left right : List ℕ) (r : Refusal) → two_judged period left right ≡ some r
    → code r ≤ code (tick_out_of_range period)
unfolding EarlierFound
two_codes period left right r e = go (tick_allowed period) refl
  where
    go : (b : Bool) → tick_allowed period ≡ b → code r ≤ code (tick_out_of_range period)
    go true h = omega (arith, judged_earlier period h left right r e)
    go false h =
        let z : some (tick_out_of_range period) ≡ some r = sym (two_refused period h left right) ∙ e in
        let q : tick_out_of_range period ≡ r = cc in
        let k : code (tick_out_of_range period) ≡ code r = ap code q in
        omega (arith, k)

pub length_promised : (period : ℕ) → LengthDemand period
length_promised period = record {
  refused = λ h. length_refused period (never h);
  passed = λ t. length_passed period (length_allowed period t);
  accepted = λ s a. allowed_length period (tick_is_allowed period s a);
}
  where
    never : (TickLength period → ⊥) → tick_allowed period ≡ false
    never h = go (tick_allowed period) refl
      where
        go : (b : Bool) → tick_allowed period ≡ b → tick_allowed period ≡ false
        go true e = absurd (h (allowed_length period e))
        go false e = e
