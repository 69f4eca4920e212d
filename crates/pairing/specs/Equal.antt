-- The judgement finds nothing exactly where the texts have equal channels, and the steps then pair up one to one.
use Rattle.std.specs.Prelude.{Result, Ok, Err, ⊤, ◌≡◌, refl, Bool, true, false, List, ℕ, ◌-◌, ◌<◌, eqb}
use Rattle.std.proofs.Common.{sym, ap, subst, ◌∙◌, arith}
use Rattle.std.proofs.Math.Bool.{not}
use borrow.Author.Tests.{eqb-true, not-true, not-false}
use Rattle.reader_record.specs.declared.Text.{Text}
use Rattle.refusals.specs.Answers.{answer_of}
use Rattle.refusals.specs.declared.Refusal.{Refusal}
use Rattle.reader.specs.Reading.{record_of, read_text}
use Rattle.reader_formed.specs.Promise.{Within, Unlike}
use Rattle.reader_formed.proofs.Formed.{read_names, read_differ}
use Rattle.reader_formed.proofs.Cases.{split, when_equal, never}
use Rattle.clocks.specs.States.{input}
use Rattle.pairing.specs.Channels.{Channel, name_of, spelling, Shared, EqualChannels, alike, partner, agree, matched, first_unmatched, verdict, unmatched, right_step, WellNamed}
use Rattle.pairing.specs.Lowest.{lowest_none, lowest_found, lowest_some}
use Rattle.pairing.specs.Laws.{matched_none, matched_some, step_none, step_in}
use Rattle.pairing.specs.Spelled.{alike_spelled, spelled_alike}

pub read_named : (period : ℕ) (s : List ℕ) → answer_of (read_text period s) ≡ Ok tt
    → WellNamed s (record_of (read_text period s))
read_named period s e = record { within = read_names period s e; differ = read_differ period s e }

name_within : (s : List ℕ) (t : Text) → WellNamed s t → (c : ℕ) → Channel t c → Within s (name_of t c)
name_within s t w c k = w.within.channel (c - 1) (omega (arith, k.from_one, k.declared))

-- channels of one text with one spelling are one channel
one_channel :
    (s : List ℕ) (t : Text) → WellNamed s t → (c d : ℕ) → Channel t c → Channel t d
    → spelling s (name_of t c) ≡ spelling s (name_of t d) → c ≡ d
unfolding alike
one_channel s t w c d k m e =
    when_equal (c ≡ d) c d
    (λ q. q)
    (λ q. clash (w.differ.channels (c - 1) (d - 1)
    (omega (arith, k.from_one, k.declared))
    (omega (arith, m.from_one, m.declared))
    (λ z. q (omega (arith, k.from_one, m.from_one)))))
  where
    clash : Unlike s (name_of t c) (name_of t d) → c ≡ d
    clash n = never (sym (alike_yes) ∙ n)
      where
        alike_yes : alike s (name_of t c) s (name_of t d) ≡ true
        alike_yes = spelled_alike s (name_of t c) s (name_of t d) (name_within s t w c k) (name_within s t w d m) e

agree_equal : (a b : Bool) → agree a b ≡ true → a ≡ b
unfolding agree
agree_equal true b e = sym e
agree_equal false b e = sym (not-true b e)

equal_agree : (a b : Bool) → a ≡ b → agree a b ≡ true
unfolding agree
equal_agree true b e = sym e
equal_agree false b e = rw (sym e)

module _ (s : List ℕ) (l : Text) (u : List ℕ) (r : Text) where
  -- the partner that is found has the name
  pub record Partner (c d : ℕ) : Type 0 where
    pub there : Channel r d
    pub spelled : spelling s (name_of l c) ≡ spelling u (name_of r d)

  partner_found : (c : ℕ) → 0 < partner s (name_of l c) u r → Partner c (partner s (name_of l c) u r)
  unfolding partner
  partner_found c h =
      let f = lowest_found (λ d. alike s (name_of l c) u (name_of r d)) r.channel_count h in
      record {
        there = record { from_one = h; declared = omega (arith, f.high) };
        spelled = alike_spelled s (name_of l c) u (name_of r (partner s (name_of l c) u r)) f.passes;
      }

  partner_some :
      (c d : ℕ) → Channel r d → alike s (name_of l c) u (name_of r d) ≡ true → 0 < partner s (name_of l c) u r
  unfolding partner
  partner_some c d k e =
      lowest_some (λ d. alike s (name_of l c) u (name_of r d)) r.channel_count d k.from_one k.declared e

  matched_shared : (c : ℕ) → matched s l u r c ≡ true → Shared s l u r c
  matched_shared c e =
      when_equal (Shared s l u r c) (partner s (name_of l c) u r) 0
      (λ z. never (sym e ∙ matched_none s l u r c _ refl z))
      (λ z. let p = partner_found c (omega arith) in
      record {
        other = partner s (name_of l c) u r;
        there = p.there;
        spelled = p.spelled;
        direction = agree_equal (input l c) (input r (partner s (name_of l c) u r))
            (sym (matched_some s l u r c _ refl z) ∙ e);
      })

  module _ (wl : WellNamed s l) (wr : WellNamed u r) where
    -- the channel with that name is the partner
    partner_is :
        (c d : ℕ) → Channel l c → Channel r d → spelling s (name_of l c) ≡ spelling u (name_of r d)
        → partner s (name_of l c) u r ≡ d
    partner_is c d k m e =
        let q = spelled_alike s (name_of l c) u (name_of r d) (name_within s l wl c k) (name_within u r wr d m) e in
        let p = partner_found c (partner_some c d m q) in
        one_channel u r wr (partner s (name_of l c) u r) d p.there m (sym p.spelled ∙ e)

    shared_matched : (c : ℕ) → Channel l c → Shared s l u r c → matched s l u r c ≡ true
    shared_matched c k h =
        let e = partner_is c h.other k h.there h.spelled in
        matched_some s l u r c h.other (sym e) (λ z. omega (arith, h.there.from_one))
        ∙ equal_agree (input l c) (input r h.other) h.direction

    -- the judgement of one text
    none_unmatched : first_unmatched s l u r ≡ 0 → (c : ℕ) → Channel l c → Shared s l u r c
    unfolding first_unmatched
    none_unmatched e c k =
        matched_shared c (not-false (matched s l u r c)
        (lowest_none (λ i. not (matched s l u r i)) l.channel_count e c k.from_one k.declared))

    all_shared : ((c : ℕ) → Channel l c → Shared s l u r c) → first_unmatched s l u r ≡ 0
    unfolding first_unmatched
    all_shared f =
        when_equal (first_unmatched s l u r ≡ 0) (first_unmatched s l u r) 0
        (λ z. z)
        (λ z.
        let i = lowest_found (λ i. not (matched s l u r i)) l.channel_count (omega arith) in
        let k : Channel l (first_unmatched s l u r) =
        record { from_one = omega arith; declared = omega (arith, i.high) } in
        never (sym (shared_matched (first_unmatched s l u r) k (f (first_unmatched s l u r) k))
        ∙ not-true (matched s l u r (first_unmatched s l u r)) i.passes))

-- the verdict of the two searches
abbrev IsEqual : Result ⊤ Refusal → Type 0
IsEqual (Ok x) = Unit {0}
IsEqual (Err f) = ⊥

verdict_zeros : (c d : ℕ) → IsEqual (verdict c d) → (c ≡ 0) × (d ≡ 0)
unfolding verdict
verdict_zeros c d =
    split P (eqb c 0)
    (λ e. split P (eqb d 0) (λ f _. (eqb-true c 0 e, eqb-true d 0 f)) (λ _ z. absurd z))
    (λ _ z. absurd z)
  where
    P : Result ⊤ Refusal → Type 0
    P m = IsEqual m → (c ≡ 0) × (d ≡ 0)

module _ (s : List ℕ) (l : Text) (u : List ℕ) (r : Text) (wl : WellNamed s l) (wr : WellNamed u r) where
  pub equal_when_nothing : unmatched s l u r ≡ Ok tt → EqualChannels s l u r
  unfolding unmatched
  equal_when_nothing e =
      let z = verdict_zeros (first_unmatched s l u r) (first_unmatched u r s l) (subst IsEqual (sym e) tt) in
      record {
        left = λ c k. none_unmatched s l u r wl wr z.0 c k;
        right = λ d k. none_unmatched u r s l wr wl z.1 d k;
      }

  pub nothing_when_equal : EqualChannels s l u r → unmatched s l u r ≡ Ok tt
  unfolding unmatched verdict
  nothing_when_equal h = rw (all_shared s l u r wl wr h.left, all_shared u r s l wr wl h.right)

  -- the renumbering of the steps, where the channels are equal
  module _ (h : EqualChannels s l u r) where
    step_partner : (c : ℕ) (k : Channel l c) → right_step s l u r c ≡ (h.left c k).other
    step_partner c k =
        let m = h.left c k in
        step_in s l u r c (λ z. omega (arith, k.from_one)) k.declared
        ∙ partner_is s l u r wl wr c m.other k m.there m.spelled

    pub tick_stays : right_step s l u r 0 ≡ 0
    tick_stays = step_none s l u r 0 refl

    -- a channel of the left is a channel of the right, of the same name and direction
    pub step_there : (c : ℕ) → Channel l c → Channel r (right_step s l u r c)
    step_there c k = rw (step_partner c k) (h.left c k).there

    pub step_spelled :
        (c : ℕ) → Channel l c → spelling s (name_of l c) ≡ spelling u (name_of r (right_step s l u r c))
    step_spelled c k = rw (step_partner c k) (h.left c k).spelled

    pub step_input : (c : ℕ) → Channel l c → input r (right_step s l u r c) ≡ input l c
    step_input c k = rw (step_partner c k) (sym (h.left c k).direction)

    -- no two channels of the left are one of the right, and none of the right is left out
    pub step_injective : (c d : ℕ) → Channel l c → Channel l d → right_step s l u r c ≡ right_step s l u r d → c ≡ d
    step_injective c d k m e =
        one_channel s l wl c d k m
        (step_spelled c k ∙ ap (λ (i : ℕ). spelling u (name_of r i)) e ∙ sym (step_spelled d m))

    pub record Origin (d : ℕ) : Type 0 where
      pub channel : ℕ
      pub there : Channel l channel
      pub step : right_step s l u r channel ≡ d

    pub step_onto : (d : ℕ) → Channel r d → Origin d
    step_onto d m =
        let o = h.right d m in
        record {
          channel = o.other;
          there = o.there;
          step =
              one_channel u r wr (right_step s l u r o.other) d (step_there o.other o.there) m
              (sym (step_spelled o.other o.there) ∙ sym o.spelled);
        }
