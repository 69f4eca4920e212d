-- The fewest underscores: they make the names differ from the channels', and are no more than the channels.
use Rattle.std.specs.Prelude.{◌≡◌, true, false, not, ◌||◌, List, [], length, get_or}
use Rattle.std.proofs.Math.Path.{refl}
use Rattle.std.proofs.Common.{sym, ap, ◌∙◌, arith}
use Rattle.std.proofs.Math.Logic.{⊎_elim}
use Rattle.std.proofs.Math.Bool.{Bool}
use Prim.Native.Nat.{ℕ, zero, suc, ◌≤◌, ◌<◌}
use Prim.Native.Char.{Char, code}
use Rattle.std.proofs.Math.Dec.{T, eqb}
use borrow.Author.Tests.{eq-eqb, eqb-true}
use Rattle.reader_tokens.specs.Scan.{run, same}
use Rattle.systems.specs.Tests.{any, least}
use Rattle.pairing.specs.Counts.{pigeons}
use Rattle.systems.specs.Bools.{any_elim, any_intro, least_passes, or_cases, or_left, or_right, T_dec, T_true, T_false}
use Rattle.written.specs.Written.{called, process_called, clock_called, location_called}
use Rattle.written.proofs.Good.{WrittenName, process, clock, location}
use Rattle.written.specs.Underscores.{is_channel_name, clashes, underscores}
use Rattle.written.proofs.Slots.{same_equal, same_self}

-- how many underscores bytes begin with
lead : List ℕ → ℕ
lead w = run (λ b. eqb b (code "_")) w

lead_called : (letter : Char) → eqb (code letter) (code "_") ≡ false → (u i : ℕ) → lead (called letter u i) ≡ u
unfolding lead called run
lead_called letter e zero i = rw e
lead_called letter e (suc u) i = ap suc (lead_called letter e u i)

T_of : (b : Bool) → b ≡ true → T b
T_of b e = rw e tt

module _ (names : List (List ℕ)) (channels : ℕ) where
  -- a channel of that name
  found : (w : List ℕ) → T (is_channel_name names channels w) → (i : ℕ) × (i < channels) × (get_or names i [] ≡ w)
  unfolding is_channel_name
  found w h =
      let r : (i : ℕ) × (i < channels) × T (same (length (get_or names i [])) (get_or names i []) (length w) w) =
      any_elim channels (λ i. same (length (get_or names i [])) (get_or names i []) (length w) w) h in
      (r.0, r.1, same_equal (get_or names r.0 []) w (T_true _ r.2))

  is_found : (w : List ℕ) (i : ℕ) → i < channels → get_or names i [] ≡ w → T (is_channel_name names channels w)
  unfolding is_channel_name
  is_found w i h e =
      any_intro channels (λ i. same (length (get_or names i [])) (get_or names i []) (length w) w) i h
      (rw e (T_of (same (length w) w (length w) w) (same_self w)))

  -- whether one of the names with that letter is a channel's
  abbrev one_clashes : Char → ℕ → ℕ → Bool
  one_clashes letter n u = any n (λ i. is_channel_name names channels (called letter u i))

  -- each clash has a channel that begins with as many underscores
  abbrev Leads : ℕ → Type 0
  Leads u = (i : ℕ) × (i < channels) × (lead (get_or names i []) ≡ u)

  called_leads : (letter : Char) → eqb (code letter) (code "_") ≡ false → (u j : ℕ)
      → T (is_channel_name names channels (called letter u j)) → Leads u
  called_leads letter e u j h =
      let r : (i : ℕ) × (i < channels) × (get_or names i [] ≡ called letter u j) = found (called letter u j) h in
      (r.0, r.1, ap lead r.2 ∙ lead_called letter e u j)

  one_leads : (letter : Char) → eqb (code letter) (code "_") ≡ false → (n u : ℕ) → T (one_clashes letter n u) → Leads u
  one_leads letter e n u h =
      let r : (i : ℕ) × (i < n) × T (is_channel_name names channels (called letter u i)) =
      any_elim n (λ i. is_channel_name names channels (called letter u i)) h in
      called_leads letter e u r.0 r.2

  -- the first of those channels; no two numbers have the same
  leader : ℕ → ℕ
  leader u = least (λ i. eqb (lead (get_or names i [])) u) 0 channels

  leader_leads : (u : ℕ) → Leads u → (leader u < channels) × (lead (get_or names (leader u) []) ≡ u)
  unfolding leader
  leader_leads u r =
      let leads : ℕ → Bool = λ i. eqb (lead (get_or names i [])) u in
      let l : T (leads (least leads 0 channels)) × (least leads 0 channels ≤ r.0) =
      least_passes leads 0 channels r.0 (omega arith) (omega (arith, r.1))
      (T_of (leads r.0) (eq-eqb (lead (get_or names r.0 [])) u r.2)) in
      (omega (arith, l.1, r.1), eqb-true (lead (get_or names (least leads 0 channels) [])) u (T_true _ l.0))

  all_lead : ((u : ℕ) → u < suc channels → Leads u) → ⊥
  all_lead f =
      let few : suc channels ≤ channels =
      pigeons (suc channels) channels leader
      (λ u h. (leader_leads u (f u h)).0)
      (λ u v h k e. sym (leader_leads u (f u h)).1 ∙ ap (λ i. lead (get_or names i [])) e
      ∙ (leader_leads v (f v k)).1) in
      omega arith

  module _ (clocks locations : ℕ) where
    clash_leads : (u : ℕ) → T (clashes names channels clocks locations u) → Leads u
    unfolding clashes
    clash_leads u h =
        ⊎_elim {C = Leads u} (called_leads "p" refl u 0)
        (λ m. ⊎_elim {C = Leads u} (one_leads "c" refl clocks u) (one_leads "l" refl locations u)
        (or_cases (one_clashes "c" clocks u) (one_clashes "l" locations u) m))
        (or_cases (is_channel_name names channels (process_called u))
        (one_clashes "c" clocks u || one_clashes "l" locations u) h)

    -- a name that is written and is a channel's is a clash
    written_clash : (u : ℕ) {j : ℕ} {letter : Char} → WrittenName clocks locations letter j
        → T (is_channel_name names channels (called letter u j)) → T (clashes names channels clocks locations u)
    unfolding clashes
    written_clash u process h =
        or_left (is_channel_name names channels (process_called u))
        (one_clashes "c" clocks u || one_clashes "l" locations u) h
    written_clash u {j} (clock l) h =
        or_right (is_channel_name names channels (process_called u))
        (one_clashes "c" clocks u || one_clashes "l" locations u)
        (or_left (one_clashes "c" clocks u) (one_clashes "l" locations u)
        (any_intro clocks (λ i. is_channel_name names channels (clock_called u i)) j l h))
    written_clash u {j} (location l) h =
        or_right (is_channel_name names channels (process_called u))
        (one_clashes "c" clocks u || one_clashes "l" locations u)
        (or_right (one_clashes "c" clocks u) (one_clashes "l" locations u)
        (any_intro locations (λ i. is_channel_name names channels (location_called u i)) j l h))

    -- without a clash no name that is written is a channel's
    pub clash_free : (u : ℕ) → clashes names channels clocks locations u ≡ false → (i j : ℕ) (letter : Char)
        → i < channels
        → WrittenName clocks locations letter j → get_or names i [] ≡ called letter u j → ⊥
    clash_free u e i j letter h m q =
        rw e at (written_clash u m (is_found (called letter u j) i h q))

    abbrev free : ℕ → Bool
    free u = not (clashes names channels clocks locations u)

    -- among one more number than there are channels, one is free
    some_free : (j : ℕ) × (j < suc channels) × T (free j)
    some_free = ⊎_elim {C = (j : ℕ) × (j < suc channels) × T (free j)} (any_elim (suc channels) free) none
        (T_dec (any (suc channels) free))
      where
        taken : T (not (any (suc channels) free)) → (u : ℕ) → u < suc channels
            → T (clashes names channels clocks locations u)
        taken h u l = ⊎_elim {C = T (clashes names channels clocks locations u)} (λ c. c)
            (λ f. absurd (rw (T_false (any (suc channels) free) h) at (any_intro (suc channels) free u l f)))
            (T_dec (clashes names channels clocks locations u))

        none : T (not (any (suc channels) free)) → (j : ℕ) × (j < suc channels) × T (free j)
        none h = absurd (all_lead (λ u l. clash_leads u (taken h u l)))

    pub record Fewest (u : ℕ) : Type 0 where
      pub few : u ≤ channels
      pub no_clash : clashes names channels clocks locations u ≡ false
      pub least_is : (v : ℕ) → v < u → clashes names channels clocks locations v ≡ true

    pub underscores_fewest : Fewest (underscores names channels clocks locations)
    unfolding underscores
    underscores_fewest =
        let r : (j : ℕ) × (j < suc channels) × T (free j) = some_free in
        let l : T (free (least free 0 (suc channels))) × (least free 0 (suc channels) ≤ r.0) =
        least_passes free 0 (suc channels) r.0 (omega arith) (omega (arith, r.1)) r.2 in
        record {
          few = omega (arith, l.1, r.1);
          no_clash = T_false (clashes names channels clocks locations (least free 0 (suc channels))) l.0;
          least_is = λ v h. ⊎_elim {C = clashes names channels clocks locations v ≡ true}
              (T_true (clashes names channels clocks locations v))
              (λ f. absurd
              (omega (arith, (least_passes free 0 (suc channels) v (omega arith) (omega (arith, l.1, r.1)) f).1)))
              (T_dec (clashes names channels clocks locations v));
        }
