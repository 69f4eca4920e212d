-- The ends of the code's paths.
use mathlib.Core.Path.{◌≡◌, refl, sym, ap, ◌∙◌}
use mathlib.Core.Bool.{Bool, true, false}
use mathlib.Core.Option.{none, some}
use Rattle.std.specs.Prelude.{Result, Ok, Err, ⊤, MatchResult, IsErrAnd, IfOk}
use Rattle.std.proofs.lemmas.Result.{err_from_is_err_and}
use mathlib.Core.List.{List}
use Prim.Native.Nat.{ℕ, ◌+◌, ◌*◌, ◌≤◌, ◌<◌}
use native.Mathlib.Omega.{arith}
use lib.ListN.{length}
use borrow.Author.Tests.{lt-ltb, le-ltb}
use Rattle.refusals.specs.declared.Refusal.{Refusal}
use Rattle.refusals.specs.declared.Refusal.TheVariants.{TextTooLong}
use Rattle.refusals.specs.declared.File.{File}
use Rattle.refusals.specs.declared.File.TheVariants.{Left, Right}
use Rattle.refusals.specs.Refusals.{in_file, tick_out_of_range}
use Rattle.refusals.specs.Answers.{answer_of}
use Rattle.reader_record.specs.declared.Text.{Text}
use Rattle.reader_record.specs.Formed.{WellFormed}
use Rattle.bitmaps.specs.Bits.{tab_from, written}
use Rattle.bitmaps.specs.BitLaws.{written_length}
use Rattle.clocks.specs.Encoding.{Filled, table_entry, table_size}
use Rattle.clocks_table.specs.Room.{Room}
use Rattle.clocks.specs.States.{state_count, start_state, input}
use Rattle.clocks.specs.Accepted as accepted
use Rattle.clocks.proofs.Judgement.{judgement_few}
use Rattle.clocks_states.specs.Parts.{Counted}
use Rattle.clocks_read.specs.declared.Measured.{Measured}
use Rattle.clocks_read.specs.declared.Reading.{Reading}
use Rattle.clocks_read.specs.Reading.{read_outcome}
use Rattle.clocks_read.specs.Loading.{Loading, load_outcome, loading}
use Rattle.clocks_read.specs.Laws.{read_accepted, load_moves, load_holds, measured_load, measured_refused, measured_text, measured_counted}
use Rattle.clocks_read.specs.Loaded.{answer_is}
use Rattle.clocks_read.specs.Measured.{Measures, measured_loading}
use Rattle.pairing.specs.declared.Pairing.{Pairing}
use Rattle.pairing.specs.Channels.{unmatched, pairing}
use Rattle.pairing.specs.Table.{renumbered, Renumbering}
use Rattle.pairing.specs.Counts.{equally_many}
use Rattle.move_tables.specs.declared.Sides.{Sides}
use Rattle.two_texts.specs.declared.TwoTexts.{TwoTexts}
use Rattle.two_texts.specs.Two.{text_of, tick_judged, too_long_in, refused_in, refused_pairing, or_else, texts_judged, channels_judged, two_judged, step_of}
use Rattle.two_texts.proofs.Laws.{Judged, judged_none, named}
use Rattle.two_texts.specs.Loaded.{refusal_in, Loaded, Loads}
use Rattle.two_texts.specs.Answers.{sides_of, accepted as accepted_two, Sized, AcceptedMeasure, by_left, Paired, RightLoaded}
use Rattle.two_texts.proofs.Tables.{table_fits, step_below, map_at, both_loaded}
use Rattle.limits.specs.Limits.{largest_text, tick_allowed, state_limit, step_limit}

-- a refusal that is passed on with the mark of its file, and what is accepted
module _ {A : Type 0} (file : File) (j r : Result A Refusal)
    (h : MatchResult j (λ x. r ≡ Ok x) (λ e. IsErrAnd r (λ f. f ≡ in_file file e))) where
  pub kept : (x : A) → r ≡ Ok x → j ≡ Ok x
  kept x i = go j h
    where
      go : (k : Result A Refusal) → MatchResult k (λ y. r ≡ Ok y) (λ e. IsErrAnd r (λ f. f ≡ in_file file e)) → k ≡ Ok x
      go (Ok y) g = sym g ∙ i
      go (Err e) g = let (f, is, same) = err_from_is_err_and r g in let z : ◌≡◌ {A = ℕ} 0 1 = cc in absurd (omega arith)

  pub passed : {B : Type 0} (why : Refusal) → r ≡ Err why → (t : Result B Refusal) → IsErrAnd t (λ g. g ≡ why)
      → (f : Refusal) × (j ≡ Err f) × (t ≡ Err (in_file file f))
  passed {B} why i t k = go j h
    where
      go : (l : Result A Refusal) → MatchResult l (λ y. r ≡ Ok y) (λ e. IsErrAnd r (λ f. f ≡ in_file file e))
          → (f : Refusal) × (l ≡ Err f) × (t ≡ Err (in_file file f))
      go (Ok y) g = let z : ◌≡◌ {A = ℕ} 0 1 = cc in absurd (omega arith)
      go (Err e) g =
          let (f, is, same) = err_from_is_err_and r g in
          let (v, told, last) = err_from_is_err_and t k in
          let q : f ≡ why = cc in
          (e, refl, told ∙ ap (λ (x : Refusal). Err x) (last ∙ sym q ∙ same))

-- a refusal is not an acceptance
refused_never : {P : Type 0} (f : Refusal) (t : Result TwoTexts Refusal) → t ≡ Err f → answer_of t ≡ Ok tt → P
refused_never f t e a = let z : ◌≡◌ {A = Result ⊤ Refusal} (Err f) (Ok tt) = sym (ap answer_of e) ∙ a in no z
  where
    no : {P : Type 0} → ◌≡◌ {A = Result ⊤ Refusal} (Err f) (Ok tt) → P
    no q = cc

refusal_of : (f : Refusal) (t : Result TwoTexts Refusal) → t ≡ Err f → some f ≡ refusal_in (answer_of t)
unfolding refusal_in
refusal_of f t e = rw e

numbers_none : (t : Result TwoTexts Refusal) (n : TwoTexts) → t ≡ Ok n → none ≡ refusal_in (answer_of t)
unfolding refusal_in
numbers_none t n e = rw e

accepted_none : (t : Result TwoTexts Refusal) → answer_of t ≡ Ok tt → refusal_in (answer_of t) ≡ none
unfolding refusal_in
accepted_none t e = rw e

same_value : (x y : TwoTexts) → ◌≡◌ {A = Result TwoTexts Refusal} (Ok x) (Ok y) → x ≡ y
same_value x y e = cc

if_ok : {A : Type 0} (P : A → Type 0) (t : Result A Refusal) → ((x : A) → t ≡ Ok x → P x) → IfOk t P
if_ok P (Ok x) h = h x refl
if_ok P (Err f) h = tt

-- the numbers
pub sides_done : (l r : Text) (ln rn ls rs : ℕ) → ln ≡ state_count l → rn ≡ state_count r → ls ≡ start_state l
    → rs ≡ start_state r → ◌≡◌ {A = Sides} (record {
      left_states = ln;
      right_states = rn;
      steps = l.channel_count + 1;
      left_start = ls;
      right_start = rs;
    }) (sides_of l r)
unfolding sides_of
sides_done l r ln rn ls rs a b p q = rw (a, b, p, q)

pub numbers_done : (l r : Text) (s : Sides) (i : List Bool) → s ≡ sides_of l r → i ≡ tab_from (input l) 0 step_limit
    → ◌≡◌ {A = TwoTexts} (record { sides = s; inputs = i }) (accepted_two l r)
unfolding accepted_two
numbers_done l r s i p q = rw (p, q)

module _ (period : ℕ) where
  -- an accepted text
  module _ (s : List ℕ) (m : Measured) (R : AcceptedMeasure period s m) where
    reading_accepted : accepted.Accepted (text_of period s)
    reading_accepted = (read_accepted period s R.accepted).accepted

    reading_few : state_count (text_of period s) ≤ state_limit
    reading_few = judgement_few (text_of period s) reading_accepted.clean

    text_is : m.text ≡ text_of period s
    text_is = measured_text period s m R.measures R.accepted

    reading_counted : Counted (text_of period s) m.ranges m.states
    reading_counted = measured_counted period s m R.measures R.accepted

    pub reading_formed : WellFormed m.text
    reading_formed = rw text_is reading_accepted.formed

    pub reading_sized : Sized m.text m.ranges
    reading_sized = rw text_is
        (record {
          formed = reading_accepted.formed;
          same = reading_counted.same;
          few = reading_few;
        })

  -- the paths after the channels are paired
  module _ (left : List ℕ) (l : Measured) (right : List ℕ) (r : Measured) (L : AcceptedMeasure period left l)
      (R : AcceptedMeasure period right r) (p : Pairing)
      (e : p ≡ pairing left l.text right r.text) where
    pairing_is : p ≡ pairing left (text_of period left) right (text_of period right)
    pairing_is = rw (text_is left l L, text_is right r R) at e

    match_is : p.answer ≡ unmatched left (text_of period left) right (text_of period right)
    unfolding pairing
    match_is = ap (λ (x : Pairing). x.answer) pairing_is

    map_is : p.map ≡ tab_from (step_of period left right) 0 step_limit
    unfolding pairing
    map_is = ap (λ (x : Pairing). x.map) pairing_is

    pub paired_refused : (d : List ℕ) (f : Refusal) (t : Result TwoTexts Refusal) → p.answer ≡ Err f → t ≡ Err f
        → Paired period left right d d d t
    unfolding refused_pairing
    paired_refused d f t a q = record {
      judged = rw (sym match_is ∙ a) (refusal_of f t q);
      numbers = refused_never f t q;
      moves = refused_never f t q;
    }

    module _ (a : p.answer ≡ Ok tt) where
      both_judged : Judged period left right
      both_judged = record {
        left_read = L.accepted;
        right_read = R.accepted;
        equal = sym match_is ∙ a;
      }

      many : (text_of period left).channel_count ≡ (text_of period right).channel_count
      many = equally_many left (text_of period left) right (text_of period right)
          (named period left both_judged.left_read)
          (named period right both_judged.right_read) both_judged.equal

      pub paired_renumbers : (d : List ℕ) → r.states * step_limit ≤ length d
          → Renumbering (length d) p.map r.states (l.text.channel_count + 1)
      paired_renumbers d k =
          let wl = reading_accepted left l L in
          rw (map_is, (reading_counted right r R).count, text_is left l L) (record {
            few = omega (arith, wl.formed.channels);
            rows = reading_few right r R;
            long = table_fits (text_of period right) ((text_of period left).channel_count + 1) (length d)
                (omega (arith, wl.formed.channels)) (rw (reading_counted right r R).count at k);
            steps = λ c m. rw (map_at period left right both_judged c (omega (arith, wl.formed.channels)))
                (omega (arith, step_below period left right both_judged c m, many));
          })

      pub paired_accepted : (d after : List ℕ) (t : Result TwoTexts Refusal)
          → after ≡ written
          (renumbered d p.map (l.text.channel_count + 1) (l.text.channel_count + 1))
          (r.states * (l.text.channel_count + 1)) d
          → t ≡ Ok (accepted_two l.text r.text)
          → Paired period left right d d after t
      unfolding refused_pairing by_left
      paired_accepted d after t m q =
          let n : t ≡ Ok (accepted_two (text_of period left) (text_of period right)) = rw
          (text_is left l L, text_is right r R) at q in
          record {
            judged = rw both_judged.equal (numbers_none t _ n);
            numbers = λ _. n;
            moves = λ _. rw (sym many) (rw (map_is, (reading_counted right r R).count, text_is left l L) at m);
          }

  -- a text, parsed and measured, after it is judged
  module _ (s : List ℕ) (v : Measured) (M : Measures period s (Ok v)) (m h : List ℕ) (r : Result Reading Refusal) (m' h' : List ℕ)
      (e : loading r m' h' ≡ measured_loading (Ok v) m h) where
    loaded_is : loading r m' h' ≡ load_outcome period s m h
    loaded_is = e ∙ measured_load period s (Ok v) M m h

    pub loaded_refused : (file : File) (f : Refusal) → r ≡ Err f
        → refused_in file (answer_of (read_outcome period s)) ≡ some (in_file file f)
    unfolding refused_in
    loaded_refused file f a = rw (answer_is period s m h r m' h' loaded_is (Err f) (ap answer_of a))

    module _ (a : answer_of r ≡ Ok tt) where
      pub loaded_reading : AcceptedMeasure period s v
      loaded_reading = record { measures = M; accepted = answer_is period s m h r m' h' loaded_is (Ok tt) a }

      loaded_none : (file : File) → refused_in file (answer_of (read_outcome period s)) ≡ none
      unfolding refused_in
      loaded_none file = rw loaded_reading.accepted

      loaded_moves : m' ≡ written (table_entry (text_of period s)) (table_size (text_of period s)) m
      loaded_moves = ap (λ (x : Loading). x.moves) loaded_is ∙ load_moves period s m h loaded_reading.accepted

      -- the slices have room for it
      module _ (k : Room v.states (length m) (length h)) where
        loaded_count : v.states ≡ state_count (text_of period s)
        loaded_count = (reading_counted s v loaded_reading).count

        loaded_few : v.states ≤ state_limit
        loaded_few = omega (arith, loaded_count, reading_few s v loaded_reading)

        loaded_most : state_count (text_of period s) * step_limit ≤ length m
        loaded_most = rw (sym loaded_count) (k.table loaded_few)

        loaded_room : table_size (text_of period s) ≤ length m
        unfolding table_size
        loaded_room =
            table_fits (text_of period s) ((text_of period s).channel_count + 1) (length m)
            (omega (arith, (reading_accepted s v loaded_reading).formed.channels)) loaded_most

        loaded_filled : Filled (text_of period s) m' h'
        loaded_filled = record {
          over = m;
          room = loaded_room;
          moves_are = loaded_moves;
          under = h;
          long = rw (sym loaded_count) (k.bits loaded_few);
          holds_are = ap (λ (x : Loading). x.holds) loaded_is ∙ load_holds period s m h loaded_reading.accepted;
        }

        -- the table keeps its length
        loaded_long : state_count (text_of period s) * step_limit ≤ length m'
        loaded_long =
            let l = written_length (table_entry (text_of period s)) (table_size (text_of period s)) m loaded_room in
            omega (arith, loaded_most, ap length loaded_moves, l)

        pub loaded_wide : v.states * step_limit ≤ length m'
        loaded_wide = rw loaded_count loaded_long

  -- a text that is refused when it is measured
  pub unread_refused : (s : List ℕ) (x : Result Measured Refusal) → Measures period s x → (file : File) (f : Refusal)
      → x ≡ Err f → refused_in file (answer_of (read_outcome period s)) ≡ some (in_file file f)
  unfolding refused_in
  unread_refused s x M file f e = rw (ap answer_of (measured_refused period s f (rw e at M)))

  -- the paths after the right is loaded
  module _ (left : List ℕ) (l : Measured) (L : AcceptedMeasure period left l) (right : List ℕ) where
    pub right_refused : (d h' : List ℕ) (g : Refusal) (t : Result TwoTexts Refusal)
        → refused_in Right (answer_of (read_outcome period right)) ≡ some g → t ≡ Err g
        → RightLoaded period left right d h' t
    unfolding or_else
    right_refused d h' g t a z = record {
      judged = rw a (refusal_of g t z);
      numbers = refused_never g t z;
      filled = refused_never g t z;
    }

    module _ (v : Measured) (M : Measures period right (Ok v)) (m h : List ℕ) (r : Result Reading Refusal) (own h' : List ℕ)
        (e : loading r own h' ≡ measured_loading (Ok v) m h) where
      pub right_paired : (d : List ℕ) (t : Result TwoTexts Refusal) → answer_of r ≡ Ok tt
          → Room v.states (length m) (length h)
          → Paired period left right own own d t → RightLoaded period left right d h' t
      unfolding or_else
      right_paired d t a k P =
          let wl = reading_accepted left l L in
          record {
            judged = rw (loaded_none right v M m h r own h' e a Right) P.judged;
            numbers = P.numbers;
            filled = λ z. record {
              own = own;
              filled = loaded_filled right v M m h r own h' e a k;
              before = own;
              space = table_fits (text_of period right) ((text_of period left).channel_count + 1) (length own)
                  (omega (arith, wl.formed.channels)) (loaded_long right v M m h r own h' e a k);
              moves_are = P.moves z;
            };
          }

  -- the paths of the whole
  module _ (left right : List ℕ) where
    loads_refused : (lm rm lh rh : List ℕ) (f : Refusal) (t : Result TwoTexts Refusal)
        → two_judged period left right ≡ some f → t ≡ Err f → Loads period left right lm rm lh rh t
    loads_refused lm rm lh rh f t j e = record { judged = j ∙ refusal_of f t e; loaded = λ c. rw e tt }

    pub tick_refused : (lm rm lh rh : List ℕ) (t : Result TwoTexts Refusal) → tick_allowed period ≡ false
        → t ≡ Err (tick_out_of_range period) → Loads period left right lm rm lh rh t
    unfolding two_judged texts_judged channels_judged tick_judged or_else
    tick_refused lm rm lh rh t h e = loads_refused lm rm lh rh (tick_out_of_range period) t (rw h) e

    module _ (allowed : tick_allowed period ≡ true) where
      pub left_too_long : (lm rm lh rh : List ℕ) (t : Result TwoTexts Refusal) → largest_text < length left
          → t ≡ Err (TextTooLong Left) → Loads period left right lm rm lh rh t
      unfolding two_judged texts_judged channels_judged tick_judged too_long_in or_else
      left_too_long lm rm lh rh t h e =
          loads_refused lm rm lh rh (TextTooLong Left) t
          (rw (allowed, lt-ltb largest_text (length left) h)) e

      module _ (h : length left ≤ largest_text) where
        pub right_too_long : (lm rm lh rh : List ℕ) (t : Result TwoTexts Refusal) → largest_text < length right
            → t ≡ Err (TextTooLong Right) → Loads period left right lm rm lh rh t
        unfolding two_judged texts_judged channels_judged tick_judged too_long_in or_else
        right_too_long lm rm lh rh t k e =
            loads_refused lm rm lh rh (TextTooLong Right) t
            (rw (allowed, le-ltb largest_text (length left) h, lt-ltb largest_text (length right) k)) e

        module _ (k : length right ≤ largest_text) where
          pub left_refused : (lm rm lh rh : List ℕ) (g : Refusal) (t : Result TwoTexts Refusal)
              → refused_in Left (answer_of (read_outcome period left)) ≡ some g → t ≡ Err g
              → Loads period left right lm rm lh rh t
          unfolding two_judged texts_judged channels_judged tick_judged too_long_in or_else
          left_refused lm rm lh rh g t a z =
              loads_refused lm rm lh rh g t
              (rw (allowed, le-ltb largest_text (length left) h, le-ltb largest_text (length right) k, a)) z

          module _ (v : Measured) (M : Measures period left (Ok v)) (lm lh : List ℕ)
              (l : Result Reading Refusal) (lm' lh' : List ℕ) (e : loading l lm' lh' ≡ measured_loading (Ok v) lm lh) where
            pub both_read : (rm rh : List ℕ) (t : Result TwoTexts Refusal) → answer_of l ≡ Ok tt
                → Room v.states (length lm) (length lh)
                → RightLoaded period left right rm rh t → Loads period left right lm' rm lh' rh t
            unfolding two_judged texts_judged channels_judged tick_judged too_long_in or_else
            both_read rm rh t a m R =
                let j : two_judged period left right ≡ refusal_in (answer_of t) =
                rw (
                  allowed,
                  le-ltb largest_text (length left) h,
                  le-ltb largest_text (length right) k,
                  loaded_none left v M lm lh l lm' lh' e a Left,
                ) R.judged in
                record {
                  judged = j;
                  loaded = λ c. if_ok (Loaded period c lm' rm lh' rh) t (λ x q.
                      let z : answer_of t ≡ Ok tt = ap answer_of q in
                      let n : x ≡ accepted_two (text_of period left) (text_of period right) = same_value x _ (sym q ∙ R.numbers z) in
                      rw n
                      (both_loaded period left right lm' rm lh' rh
                      (judged_none period left right (sym (j ∙ accepted_none t z))) c
                      (loaded_filled left v M lm lh l lm' lh' e a m) (R.filled z)));
                }
