-- Laws of joining: the order of its judgements, and the text from the array in which it is written.
use Rattle.std.specs.Prelude.{◌≡◌, true, false, List, ◌++◌, ℕ, ◌≤◌, ◌<◌, min, length, Ok, Err}
use Rattle.std.proofs.Math.Path.{ap}
use Rattle.std.proofs.Common.{◌∙◌, arith, take_at}
use Rattle.std.proofs.Math.ListN.{take, drop}
use Rattle.std.proofs.Math.Seq.{take_all}
use borrow.Author.Tests.{lt-ltb, le-ltb, lt-leb, le-leb}
use Rattle.limits.specs.Limits.{largest_text, state_limit}
use Rattle.refusals.specs.Refusals.{limit_exceeded, out_too_short}
use Rattle.byte_slices.specs.Laid.{Laid, laid}
use Rattle.byte_slices.specs.Put.{Puts, puts_same, puts_laid}
use Rattle.reader_record.specs.declared.Text.{Text}
use Rattle.clocks.specs.States.{state_count}
use Rattle.joined.specs.Joined.{counts_fit}
use Rattle.written.specs.Written.{written_with}
use Rattle.written.specs.Underscores.{underscores, written_text}
use Rattle.written_names.specs.Spelled.{channel_spellings}
use Rattle.written_names.specs.Inside.{names_in}
use Rattle.writer_names.specs.NameLaws.{underscores_here}
use Rattle.joining.specs.Outcome.{Outcome, refused, within_limits, laid_text, record_outcome}
use Rattle.joining.specs.Ready.{room, bytes_outcome}

-- code 25 for the counts, then for the states; then it goes by the text
module _ (t : Text) (z out : List ℕ) where
  pub over_counts : counts_fit t ≡ false → refused limit_exceeded out ≡ record_outcome t z out
  unfolding record_outcome within_limits
  over_counts e = rw e

  pub over_states : counts_fit t ≡ true → state_limit < state_count t
      → refused limit_exceeded out ≡ record_outcome t z out
  unfolding record_outcome within_limits
  over_states e h = rw (e, lt-leb (state_count t) state_limit h)

  pub by_text : counts_fit t ≡ true → state_count t ≤ state_limit → bytes_outcome z out ≡ record_outcome t z out
  unfolding record_outcome within_limits bytes_outcome
  by_text e h = rw (e, le-leb (state_count t) state_limit h)

-- the text of a record t is put with the number of underscores that was found
pub text_put :
    {before after : List ℕ} {u n : ℕ} (s : List ℕ) (t : Text)
    → u ≡ underscores (names_in s t.channels t.channel_count) t.channel_count t.clock_count
    t.location_count
    → Puts before 0 (written_with (channel_spellings s t) u t) after n
    → Puts before 0 (written_text (channel_spellings s t) t) after n
unfolding written_text
text_put s t e p =
    puts_same (ap (λ (u : ℕ). written_with (channel_spellings s t) u t) (e ∙ underscores_here s t)) p

-- the text z is put at the front of an array, which is longer than every text
module _ (z : List ℕ) {before after : List ℕ} {n : ℕ} (size : length before ≡ room) (p : Puts before 0 z after n) where
  count_is : n ≡ min (length z) room
  unfolding laid
  count_is = ap (λ (l : Laid). l.count) (puts_laid p) ∙ ap (min (length z)) size

  -- it is as long as the array says, and stands there, unless it is too long
  pub text_size : n ≤ largest_text → length z ≡ n
  text_size h = omega (arith, count_is)

  pub text_front : n ≤ largest_text → take n after ≡ z
  unfolding laid
  text_front h =
      let e : after ≡ take (length before) z ++ drop (length z) before = ap (λ (l : Laid). l.slice) (puts_laid p) in
      let m = text_size h in
      rw (e, take_all (length before) z (omega (arith, size, m)))
      (take_at z (drop (length z) before) n m)

  module _ (out : List ℕ) where
    pub text_over : largest_text < n
        → ◌≡◌ {A = Outcome} (record { answer = Err limit_exceeded; out = out }) (bytes_outcome z out)
    unfolding bytes_outcome refused
    text_over h = rw (lt-leb (length z) largest_text (omega (arith, count_is)))

    pub text_short : n ≤ largest_text → length out < n
        → ◌≡◌ {A = Outcome} (record { answer = Err (out_too_short n); out = out }) (bytes_outcome z out)
    unfolding bytes_outcome laid_text refused
    text_short h s =
        let m = text_size h in
        rw (le-leb (length z) largest_text (omega (arith, m)), lt-ltb (length out) (length z) (omega (arith, m)), m)

    -- its bytes are copied to the slice
    pub text_copied : {copy : List ℕ} {k : ℕ} → n ≤ largest_text → n ≤ length out → Puts out 0 (take n after) copy k
        → ◌≡◌ {A = Outcome} (record { answer = Ok n; out = copy }) (bytes_outcome z out)
    unfolding bytes_outcome laid_text laid
    text_copied {copy} h s q =
        let m = text_size h in
        let f = text_front h in
        let c : copy ≡ take (length out) (take n after) ++ drop (length (take n after)) out =
        ap (λ (l : Laid). l.slice) (puts_laid q) in
        rw (
          le-leb (length z) largest_text (omega (arith, m)),
          le-ltb (length out) (length z) (omega (arith, m)),
          c,
          f,
          take_all (length out) z (omega (arith, m)),
          m,
        )
