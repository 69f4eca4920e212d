-- A system with its steps renumbered, and its capping: the right text by the channel numbers of the left, `f` giving
-- the right's number of each (SPECIFICATION 9.2).
use Rattle.std.specs.Prelude.{◌≡◌, Bool, ℕ, leb}
use Rattle.std.proofs.Math.Path.{refl}
use Rattle.std.proofs.Math.Bool.{true, false, cond}
use Rattle.std.proofs.Math.Option.{Option, none}
use Rattle.std.proofs.Common.{leb→le, le→leb}
use Rattle.systems.specs.Bools.{T_true, guard_elim}
use Rattle.systems.specs.Definitions.{Signature, Input, System}
use Rattle.systems.specs.Finite.{FiniteSystem, cap_option, Capping}

module _ {A B : Signature} (f : ℕ → ℕ) where
  -- step c of A is step f c
  unfoldable pub renumbered_system : System B → System A
  renumbered_system N = record {
    State = N.State;
    start = N.start;
    next = λ y c. cond (leb c A.channels) (N.next y (f c)) none;
    holds = N.holds;
    next_known = λ y c v e. leb→le c A.channels (guard_elim (leb c A.channels) (N.next y (f c)) v e).0;
    start_holds = N.start_holds;
    next_holds = λ y c v h e. N.next_holds y (f c) v h (guard_elim (leb c A.channels) (N.next y (f c)) v e).1;
  }

  module _ (inputs : (c : ℕ) → Input A c → Input B (f c)) where
    unfoldable pub renumbered : FiniteSystem B → FiniteSystem A
    renumbered R = record {
      size = R.size;
      start = R.start;
      next = λ s c. cond (leb c A.channels) (R.next s (f c)) none;
      holds = R.holds;
      next_known = λ s c t e. leb→le c A.channels (guard_elim (leb c A.channels) (R.next s (f c)) t e).0;
      start_state = R.start_state;
      next_state = λ s c t h e. R.next_state s (f c) t h (guard_elim (leb c A.channels) (R.next s (f c)) t e).1;
      enabled = λ s c h i.
          let (t, e) = R.enabled s (f c) h (inputs c i) in
          (t, rw (T_true (leb c A.channels) (le→leb c A.channels (A.input_known c i))) e);
    }

    unfoldable pub renumbered_capping : (N : System B) (R : FiniteSystem B) → Capping N R
        → Capping (renumbered_system N) (renumbered R)
    unfolding renumbered_system renumbered cap_option
    renumbered_capping N R C = record {
      cap = C.cap;
      uncap = C.uncap;
      starts = C.starts;
      onto = C.onto;
      holding = C.holding;
      agree = λ y c l. go (leb c A.channels) (N.next y (f c)) (R.next (C.cap y) (f c)) (C.agree y (f c) l);
    }
      where
        go : (b : Bool) (o : Option N.State) (p : Option ℕ) → p ≡ cap_option C.cap o
            → cond b p none ≡ cap_option C.cap (cond b o none)
        go true o p e = e
        go false o p e = refl
