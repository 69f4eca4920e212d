-- The joined record with uncapped clocks and the conjunction of the two texts with uncapped clocks match move by move,
-- so an implementation satisfies the joined record exactly when it satisfies both texts (SPECIFICATION 18.1).
use Rattle.std.specs.Prelude.{◌≡◌, refl, ◌↔◌, cond, ℕ, ◌*◌, ◌≤◌, ◌<◌, T, leb}
use Rattle.std.proofs.Math.Path.{sym}
use Rattle.std.proofs.Common.{◌∙◌, le→leb}
use Rattle.std.proofs.Math.Option.{Option, none}
use Rattle.systems.specs.Bools.{T_true, guard_elim}
use Rattle.systems.specs.Definitions.{System, Implementation, Satisfies}
use Rattle.systems.specs.Renumbered.{renumbered_system, renumbered_capping}
use Rattle.conjunction.specs.Definitions.{Enabled, Bisimulation, SameSignature}
use Rattle.conjunction.proofs.Parts.{flipped}
use Rattle.conjunction.proofs.Conjunction.{conjunction, carried, carried_system}
use Rattle.conjunction.proofs.Exactly.{conjunction_elim, conjunction_intro, conjunction_exactly, capped_enabled}
use Rattle.conjunction.proofs.Matched.{satisfies_bisimilar, along}
use Rattle.conjunction.proofs.Carried.{satisfies_carried}
use Rattle.reader_record.specs.declared.Text.{Text}
use Rattle.reader_record.specs.Formed.{WellFormed}
use Rattle.clocks.specs.declared.Config.{Config}
use Rattle.clocks.specs.declared.Moves.TheVariants.{One}
use Rattle.clocks.specs.Meaning.{moves, start_of, led, stands}
use Rattle.clocks.specs.Accepted.{Accepted}
use Rattle.clocks.proofs.Standing.{led_one, stands_location, moves_stand, moves_known, start_stands}
use Rattle.clocks.proofs.Contract.{signature, uncapped, system, capping}
use Rattle.joined.specs.Joined.{joined_text, counts_fit}
use Rattle.joined.proofs.Formed.{pair_lt, text_formed}
use Rattle.joined.proofs.Paired.{PairedSteps}
use Rattle.joined.proofs.PairedLaws.{paired_inputs}
use Rattle.joined.proofs.Together.{Together, start_together}
use Rattle.joined.proofs.Alike.{Alike}
use Rattle.joined.proofs.AlikeLaws.{moves_same, start_same}
use Rattle.joined.proofs.Conjunction.{Right}
use Rattle.joined.proofs.Both.{both_one, both_split}
use Rattle.joined.proofs.Judged.{step_both, left_never_two, right_never_two, input_same}

-- a step of the signature is not held back
guard_in : {X : Type 0} (c n : ℕ) (o : Option X) → c ≤ n → cond (leb c n) o none ≡ o
guard_in c n o h = rw (T_true (leb c n) (le→leb c n h))

-- related are a configuration of the joined record and two of the texts that it stands for, their invariants true
pub record JoinedPair (l r : Text) (u v w : Config) : Type 0 where
  pub together : Together l r u v w
  pub left_stands : T (stands l v)
  pub right_stands : T (stands r w)

-- x says what the two texts joined say
module _ (f : ℕ → ℕ) (l r : Text) (a : Accepted l) (b : Accepted r) (p : PairedSteps f l r)
    (s : T (counts_fit (joined_text f l r))) (x : Text) (alike : Alike (joined_text f l r) x) where
  pair_moves : (u v w : Config) (c : ℕ) → JoinedPair l r u v w → moves x u c ≡ moves (joined_text f l r) u c
  pair_moves u v w c q = moves_same (joined_text f l r) x (text_formed f l r a.formed b.formed s) alike u c
      (below (rw q.together.location
      (pair_lt l.location_count r.location_count v.location w.location
      (stands_location l v q.left_stands) (stands_location r w q.right_stands))))
    where
      below : u.location < l.location_count * r.location_count
          → u.location < (joined_text f l r).location_count
      below h = unfold joined_text in h

  -- one move of the joined record is one of each text, and the other way round
  moves_forth : (u v w : Config) (c : ℕ) (u' : Config) → JoinedPair l r u v w → moves x u c ≡ One u'
      → (v' : Config) × (w' : Config) × (c ≤ l.channel_count) × (moves l v c ≡ One v') × (moves r w (f c) ≡ One w')
      × JoinedPair l r u' v' w'
  moves_forth u v w c u' q i =
      let e : moves (joined_text f l r) u c ≡ One u' = sym (pair_moves u v w c q) ∙ i in
      let n : c ≤ l.channel_count = below (moves_known (joined_text f l r)
      (text_formed f l r a.formed b.formed s) u c u' e) in
      let (v', w', g, h, t) = both_split (Together l r) (moves (joined_text f l r) u c) (moves l v c)
      (moves r w (f c)) u' (step_both f l r a b p s q.together q.left_stands q.right_stands c n)
      (left_never_two f l r a b p s q.together q.left_stands q.right_stands c n)
      (right_never_two f l r a b p s q.together q.left_stands q.right_stands c n) e in (
        v',
        w',
        n,
        g,
        h,
        record {
          together = t;
          left_stands = moves_stand l a.formed v c v' (stands_location l v q.left_stands) g;
          right_stands = moves_stand r b.formed w (f c) w' (stands_location r w q.right_stands) h;
        },
      )
    where
      below : c ≤ (joined_text f l r).channel_count → c ≤ l.channel_count
      below h = unfold joined_text in h

  moves_back : (u v w : Config) (c : ℕ) (v' w' : Config) → JoinedPair l r u v w → moves l v c ≡ One v'
      → moves r w (f c) ≡ One w' → (u' : Config) × (moves x u c ≡ One u') × JoinedPair l r u' v' w'
  moves_back u v w c v' w' q g h =
      let n : c ≤ l.channel_count = moves_known l a.formed v c v' g in
      let (u', e, t) = both_one (Together l r) (moves (joined_text f l r) u c) (moves l v c) (moves r w (f c)) v' w'
      (step_both f l r a b p s q.together q.left_stands q.right_stands c n) g h in (
        u',
        pair_moves u v w c q ∙ e,
        record {
          together = t;
          left_stands = moves_stand l a.formed v c v' (stands_location l v q.left_stands) g;
          right_stands = moves_stand r b.formed w (f c) w' (stands_location r w q.right_stands) h;
        },
      )

  -- it has the left's channels and directions, though not by the same record
  pub same_steps : SameSignature (signature l) (signature x)
  unfolding signature joined_text
  same_steps = record {
    channels = sym alike.channel_count;
    input = λ c. sym (alike.inputs c ∙ input_same f l r a b p s c);
  }

  abbrev pub BothTexts : System (signature l)
  BothTexts = conjunction (uncapped l a.formed) (Right f l r b.formed)

  start_pair : JoinedPair l r (start_of x) (start_of l) (start_of r)
  start_pair = record {
    together = rw (start_same (joined_text f l r) x (text_formed f l r a.formed b.formed s) alike)
        (start_together f l r);
    left_stands = start_stands l a.formed;
    right_stands = start_stands r b.formed;
  }

  -- it and the conjunction of the two texts
  pub text_bisimulation : (w : WellFormed x) → Bisimulation (uncapped x w) (carried_system same_steps BothTexts)
  unfolding uncapped renumbered_system signature led
  text_bisimulation _ = record {
    Rel = λ u z. JoinedPair l r u z.0 z.1;
    starts = start_pair;
    forth = λ u z c u' q e.
        let (v', w', n, g, h, k) = moves_forth u z.0 z.1 c u' q (led_one (moves x u c) u' e) in (
          (v', w'),
          conjunction_intro (uncapped l a.formed) (Right f l r b.formed) z.0 z.1 c v' w' (rw g)
              (guard_in c l.channel_count (led (moves r z.1 (f c))) n ∙ rw h),
          k,
        );
    back = λ u z c z' q e.
        let (g, m) = conjunction_elim (uncapped l a.formed) (Right f l r b.formed) z.0 z.1 c z' e in
        let (i, h) = guard_elim (leb c l.channel_count) (led (moves r z.1 (f c))) z'.1 m in
        let (u', d, k) = moves_back u z.0 z.1 c z'.0 z'.1 q (led_one (moves l z.0 c) z'.0 g)
        (led_one (moves r z.1 (f c)) z'.1 h) in
        (u', rw d, k);
  }

  left_enabled : Enabled (uncapped l a.formed)
  left_enabled = capped_enabled (capping l a)

  right_inputs : (c : ℕ) → T ((signature l).input c) → T ((signature r).input (f c))
  unfolding signature
  right_inputs c i = paired_inputs p c i

  right_enabled : Enabled (Right f l r b.formed)
  right_enabled = capped_enabled (renumbered_capping f right_inputs (uncapped r b.formed) (system r b) (capping r b))

  -- an implementation satisfies it exactly when it satisfies both texts
  pub text_satisfied : (w : WellFormed x) (I : Implementation (signature l))
      → Satisfies (carried same_steps I) (uncapped x w)
      ↔ (Satisfies I (uncapped l a.formed) × Satisfies I (Right f l r b.formed))
  text_satisfied w I =
      let m = satisfies_bisimilar (carried same_steps I) (text_bisimulation w) in
      let n = satisfies_carried same_steps I BothTexts in
      let k = conjunction_exactly (uncapped l a.formed) (Right f l r b.formed) I left_enabled right_enabled in
      (λ S. k.0 (n.1 (m.0 S)), λ S. m.1 (n.0 (k.1 S)))

  -- the same of an implementation that is held against x
  pub text_held : (w : WellFormed x) (I : Implementation (signature x)) → Satisfies I (uncapped x w)
      ↔ (Satisfies (carried (flipped same_steps) I) (uncapped l a.formed)
      × Satisfies (carried (flipped same_steps) I) (Right f l r b.formed))
  text_held w I =
      let J = carried (flipped same_steps) I in
      let m = satisfies_bisimilar I (text_bisimulation w) in
      let n = satisfies_carried (flipped same_steps) I (carried_system same_steps BothTexts) in
      let i = satisfies_bisimilar J (along (carried_system (flipped same_steps) (carried_system same_steps BothTexts))
      BothTexts (λ z. z) refl (λ z c u e. e) (λ z c u e. (u, e, refl))) in
      let k = conjunction_exactly (uncapped l a.formed) (Right f l r b.formed) J left_enabled right_enabled in
      (λ S. k.0 (i.0 (n.0 (m.0 S))), λ S. m.1 (n.1 (i.1 (k.1 S))))
