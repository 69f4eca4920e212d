-- The ends of the code's paths, once two texts are loaded.
use Rattle.std.specs.Prelude.{Result, Ok, Err}
use Rattle.std.specs.Result.{IsErrAnd}
use Rattle.std.proofs.lemmas.Result.{err_from_is_err_and}
use mathlib.Core.Path.{◌≡◌, sym, ◌∙◌}
use mathlib.Core.Option.{none}
use mathlib.Core.List.{List}
use Prim.Native.Nat.{ℕ}
use Rattle.refusals.specs.declared.Refusal.{Refusal}
use Rattle.bitmaps.specs.Packed.{Bitmap}
use Rattle.tables_prepare.specs.Prepared.{ReadyTwo}
use Rattle.tables_prepare.specs.Callers.{held_ready}
use Rattle.two_texts.specs.declared.TwoTexts.{TwoTexts}
use Rattle.two_texts.specs.Two.{two_judged, Compared, left_system, right_system, judged_by}
use Rattle.two_texts.proofs.Laws.{compared, judged_by_none, judged_by_some}
use Rattle.two_texts.specs.Loaded.{Loaded, Loads, refusal_in}
use Rattle.search.specs.Outcome as search
use Rattle.search.specs.Outcome.{Outcome, search_systems}
use Rattle.search.specs.Slices.{Searches}
use Rattle.tables_widest.specs.declared.WidestTable.{WidestTable}
use Rattle.tables.specs.Outcome.{Checked, check_refused, check_systems, Widened, widest_refused, widest_systems}
use Rattle.tables.specs.Slices.{Checks, Widens}
use Rattle.two_operations.specs.Outcome.{search_outcome, check_outcome, widest_outcome}

module _ (period : ℕ) (left right lm rm lh rh : List ℕ) where
  -- an outcome by codes 24 and 1 to 12, where they refuse
  module _ (f : Refusal) (O : Loads period left right lm rm lh rh (Err f)) where
    by_refusal : {X : Type 0} (refused : Refusal → X) (accepted : none ≡ two_judged period left right → X)
        → refused f ≡ judged_by (two_judged period left right) refused accepted
    unfolding refusal_in
    by_refusal refused accepted = sym (judged_by_some (two_judged period left right) refused accepted f O.judged)

    pub search_refused : (keep : List ℕ) (back line : ℕ) (run : List ℕ) (r : Result ℕ Refusal)
        → IsErrAnd r (λ g. g ≡ f)
        → record { answer = r; keep = keep; run = run } ≡ search_outcome period left right keep back line run
    unfolding search_outcome
    search_refused keep back line run r i =
        let (g, is, same) = err_from_is_err_and r i in
        rw (is, same) (by_refusal (λ r. search.refused r keep run)
        (λ e. search_systems (left_system period (compared period left right e))
        (right_system period (compared period left right e)) keep back line run))

    pub check_refused_done : (keep table : List ℕ) (r : Result ℕ Refusal) → IsErrAnd r (λ g. g ≡ f)
        → record { answer = r; keep = keep } ≡ check_outcome period left right keep table
    unfolding check_outcome
    check_refused_done keep table r i =
        let (g, is, same) = err_from_is_err_and r i in
        rw (is, same) (by_refusal (λ r. check_refused r keep)
        (λ e. check_systems (left_system period (compared period left right e))
        (right_system period (compared period left right e)) keep table))

    pub widest_refused_done : (keep table : List ℕ) (r : Result WidestTable Refusal) → IsErrAnd r (λ g. g ≡ f)
        → record { answer = r; keep = keep; table = table } ≡ widest_outcome period left right keep table
    unfolding widest_outcome
    widest_refused_done keep table r i =
        let (g, is, same) = err_from_is_err_and r i in
        rw (is, same) (by_refusal (λ r. widest_refused r keep table)
        (λ e. widest_systems (left_system period (compared period left right e))
        (right_system period (compared period left right e)) keep table))

  module _ (t : TwoTexts) (O : Loads period left right lm rm lh rh (Ok t)) where
    nothing_found : none ≡ two_judged period left right
    unfolding refusal_in
    nothing_found = sym O.judged

    abbrev both : Compared period left right
    both = compared period left right nothing_found

    loaded : Loaded period both lm rm lh rh t
    loaded = O.loaded both

    -- and where they find nothing
    by_texts : {X : Type 0} (refused : Refusal → X) (accepted : none ≡ two_judged period left right → X)
        → accepted nothing_found ≡ judged_by (two_judged period left right) refused accepted
    by_texts refused accepted = sym (judged_by_none (two_judged period left right) refused accepted nothing_found)

    -- the slices are ready for an operation on systems
    pub loaded_ready : ReadyTwo t.sides t.inputs lm rm lh
    loaded_ready = held_ready loaded

    pub loaded_bits : Bitmap t.sides.right_states rh
    loaded_bits = loaded.right_bits

    pub search_done : (keep : List ℕ) (back line : ℕ) (run : List ℕ) (o : Outcome)
        → Searches t.sides t.inputs lm rm lh rh keep back line run o
        → o ≡ search_outcome period left right keep back line run
    unfolding search_outcome
    search_done keep back line run o S =
        S _ (left_system period both) (right_system period both) loaded
        ∙ by_texts (λ r. search.refused r keep run)
        (λ e. search_systems (left_system period (compared period left right e))
        (right_system period (compared period left right e)) keep back line run)

    pub check_done : (keep table : List ℕ) (o : Checked)
        → Checks t.sides t.inputs lm rm lh rh keep table o → o ≡ check_outcome period left right keep table
    unfolding check_outcome
    check_done keep table o C =
        C _ (left_system period both) (right_system period both) loaded
        ∙ by_texts (λ r. check_refused r keep)
        (λ e. check_systems (left_system period (compared period left right e))
        (right_system period (compared period left right e)) keep table)

    pub widest_done : (keep table : List ℕ) (o : Widened)
        → Widens t.sides t.inputs lm rm lh rh keep table o → o ≡ widest_outcome period left right keep table
    unfolding widest_outcome
    widest_done keep table o W =
        W _ (left_system period both) (right_system period both) loaded
        ∙ by_texts (λ r. widest_refused r keep table)
        (λ e. widest_systems (left_system period (compared period left right e))
        (right_system period (compared period left right e)) keep table)
