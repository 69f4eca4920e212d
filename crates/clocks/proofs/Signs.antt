-- What the five signs say of a clock's value v and a constant b (SPECIFICATION 6.2), and that by each of them the
-- constant counts towards M as it is written (SPECIFICATION 6.4).
use Rattle.std.specs.Prelude.{◌≡◌, refl, ◌↔◌, Bool, true, false, cond, ℕ, ◌≤◌, ◌<◌, eqb}
use Rattle.std.proofs.Math.Path.{subst}
use Rattle.std.proofs.Math.Dec.{T, le→leb, lt→ltb, eqb_refl}
use Rattle.std.proofs.Common.{leb→le, ltb→lt, eqb→eq}
use Rattle.reader_record.specs.declared.Sign.TheVariants.{AtMost, AtLeast, Equal, Less, Greater}
use Rattle.reader_record.specs.declared.Comparison.{Comparison}
use Rattle.clocks.specs.Meaning.{compares}
use Rattle.clocks.specs.States.{constant_for}

module _ (v b : ℕ) where
  pub at_most_exactly : T (compares AtMost v b) ↔ (v ≤ b)
  unfolding compares
  at_most_exactly = (leb→le v b, le→leb v b)

  pub at_least_exactly : T (compares AtLeast v b) ↔ (b ≤ v)
  unfolding compares
  at_least_exactly = (leb→le b v, le→leb b v)

  pub equal_exactly : T (compares Equal v b) ↔ (v ≡ b)
  unfolding compares
  equal_exactly = (eqb→eq v b, λ e. subst (λ (n : ℕ). T (eqb v n)) e (eqb_refl v))

  pub less_exactly : T (compares Less v b) ↔ (v < b)
  unfolding compares
  less_exactly = (ltb→lt v b, lt→ltb v b)

  pub greater_exactly : T (compares Greater v b) ↔ (b < v)
  unfolding compares
  greater_exactly = (ltb→lt b v, lt→ltb b v)

-- a comparison by `<` with 5 counts as 5, and so does one by any other sign
pub counts_as_written : (q : Comparison) → constant_for q.clock q ≡ q.bound
unfolding constant_for
counts_as_written q = go (eqb q.clock q.clock) (eqb_refl q.clock)
  where
    go : (b : Bool) → T b → cond b q.bound 0 ≡ q.bound
    go true h = refl
    go false h = elim h [ ]
