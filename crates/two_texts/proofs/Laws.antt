-- Where codes 24 and 1 to 12 find nothing there are two texts to compare, and an outcome goes by what is known of them.
use Rattle.std.specs.Prelude.{◌≡◌, refl, List, ℕ, Result, Ok, Err, ⊤}
use Rattle.std.proofs.Common.{sym}
use Rattle.std.proofs.Math.Path.{subst, path_j}
use Rattle.std.proofs.Math.Option.{Option, none, some}
use Rattle.std.proofs.Math.Dec.{T}
use Rattle.refusals.specs.declared.Refusal.{Refusal}
use Rattle.systems.specs.Bools.{none_some}
use Rattle.clocks.proofs.Judgement.{input_known}
use Rattle.clocks.proofs.Contract.{signature}
use Rattle.refusals.specs.declared.File.{File}
use Rattle.refusals.specs.declared.File.TheVariants.{Left, Right}
use Rattle.refusals.specs.Answers.{answer_of}
use Rattle.clocks_read.specs.Reading.{read_outcome}
use Rattle.clocks_read.specs.Laws.{read_accepted}
use Rattle.pairing.specs.Channels.{EqualChannels, unmatched, WellNamed}
use Rattle.pairing.specs.Equal.{read_named, equal_when_nothing, step_input}
use Rattle.two_texts.specs.Two.{text_of, tick_judged, too_long_in, refused_in, refused_pairing, or_else, texts_judged, channels_judged, two_judged, Compared, judged_by}

-- nothing is found exactly when no judgement finds anything
or_none : (a b : Option Refusal) → none ≡ or_else a b → (a ≡ none) × (none ≡ b)
unfolding or_else
or_none none b e = (refl, e)
or_none (some r) b e = none_some r e

refused_none : (file : File) (a : Result ⊤ Refusal) → refused_in file a ≡ none → a ≡ Ok tt
unfolding refused_in
refused_none file (Ok u) e = refl
refused_none file (Err r) e = none_some _ (sym e)

pairing_none : (m : Result ⊤ Refusal) → none ≡ refused_pairing m → m ≡ Ok tt
unfolding refused_pairing
pairing_none (Ok u) e = refl
pairing_none (Err r) e = none_some r e

-- an outcome by a judgement that finds nothing, and by one that refuses
pub judged_by_none : {X : Type 0} (o : Option Refusal) (refused : Refusal → X) (accepted : none ≡ o → X) (e : none ≡ o)
    → judged_by o refused accepted ≡ accepted e
unfolding judged_by
judged_by_none {X} o refused accepted e =
    path_j (λ (p : Option Refusal) (q : none ≡ p). (f : none ≡ p → X) → judged_by p refused f ≡ f q) (λ f. refl) e
    accepted

pub judged_by_some : {X : Type 0} (o : Option Refusal) (refused : Refusal → X) (accepted : none ≡ o → X) (r : Refusal)
    → o ≡ some r
    → judged_by o refused accepted ≡ refused r
unfolding judged_by
judged_by_some {X} o refused accepted r e =
    path_j (λ (p : Option Refusal) (q : some r ≡ p). (f : none ≡ p → X) → judged_by p refused f ≡ refused r) (λ f. refl)
    (sym e) accepted

module _ (period : ℕ) where
  -- what is known of the texts where codes 24 and 1 to 12 find nothing
  pub record Judged (left right : List ℕ) : Type 0 where
    pub left_read : answer_of (read_outcome period left) ≡ Ok tt
    pub right_read : answer_of (read_outcome period right) ≡ Ok tt
    pub equal : unmatched left (text_of period left) right (text_of period right) ≡ Ok tt

  pub judged_none : (left right : List ℕ) → none ≡ two_judged period left right → Judged left right
  unfolding two_judged texts_judged channels_judged
  judged_none left right e =
      let (t, i) = or_none (texts_judged period left right) _ e in
      let (k, h) = or_none (tick_judged period) _ (sym t) in
      let (a, f) = or_none (too_long_in Left left) _ h in
      let (b, g) = or_none (too_long_in Right right) _ f in
      let (c, d) = or_none (refused_in Left (answer_of (read_outcome period left))) _ g in
      record {
        left_read = refused_none Left (answer_of (read_outcome period left)) c;
        right_read = refused_none Right (answer_of (read_outcome period right)) (sym d);
        equal = pairing_none _ i;
      }

  -- the names of an accepted text are within it and differ
  pub named : (s : List ℕ) → answer_of (read_outcome period s) ≡ Ok tt → WellNamed s (text_of period s)
  named s e = let r = read_accepted period s e in rw r.same (read_named period s r.parsed)

  pub channels_equal : (left right : List ℕ) → Judged left right
      → EqualChannels left (text_of period left) right (text_of period right)
  channels_equal left right j = equal_when_nothing left (text_of period left) right (text_of period right)
      (named left j.left_read)
      (named right j.right_read) j.equal

  pub judged_compared : (left right : List ℕ) → Judged left right → Compared period left right
  unfolding signature
  judged_compared left right j = record {
    left_text = (read_accepted period left j.left_read).accepted;
    right_text = (read_accepted period right j.right_read).accepted;
    inputs = λ c i.
        let (a, b) = input_known (text_of period left) c i in
        subst T (sym (step_input left (text_of period left) right (text_of period right) (named left j.left_read)
        (named right j.right_read) (channels_equal left right j) c (record { from_one = a; declared = b }))) i;
  }

  pub compared : (left right : List ℕ) → none ≡ two_judged period left right → Compared period left right
  compared left right e = judged_compared left right (judged_none left right e)
