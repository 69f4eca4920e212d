-- The conjunction of two systems over one signature (SPECIFICATION 18.1), and what is carried from a signature to one
-- that says the same. Definitions only; the proofs in them are laws of Parts.antt.
use Rattle.systems.specs.Definitions.{Signature, System, Implementation}
use Rattle.conjunction.specs.Definitions.{both_next, both_hold, SameSignature}
use Rattle.conjunction.proofs.Parts.{both_next_elim, both_hold_iff, known, from, own_into, own_from}

-- pairs of states, from the pair of starts; a step is possible where both sides make it
abbrev pub conjunction : {A : Signature} → System A → System A → System A
conjunction M N = record {
  State = M.State × N.State;
  start = (M.start, N.start);
  next = both_next M.next N.next;
  holds = both_hold M.holds N.holds;
  next_known = λ z c w e. M.next_known z.0 c w.0 (both_next_elim M.next N.next z c w e).0;
  start_holds = (both_hold_iff M.holds N.holds (M.start, N.start)).1 (M.start_holds, N.start_holds);
  next_holds = λ z c w h e.
      let (p, q) = (both_hold_iff M.holds N.holds z).0 h in
      let (a, b) = both_next_elim M.next N.next z c w e in
      (both_hold_iff M.holds N.holds w).1
      (M.next_holds z.0 c w.0 p a, N.next_holds z.1 c w.1 q b);
}

module _ {A B : Signature} (s : SameSignature A B) where
  -- an implementation, with its states and moves
  unfoldable pub carried : Implementation A → Implementation B
  carried I = record {
    state = I.state;
    start = I.start;
    next = I.next;
    start_state = I.start_state;
    next_state = I.next_state;
    no_others = λ i c j h e. known s c (I.no_others i c j h e);
    every_input = λ i c h k. I.every_input i c h (from s c k);
    never_both = λ i h t c u e o f. I.never_both i h t c u e (o.0, own_from s c o.1) f;
    always_own = λ i h. let (c, t, o, e) = I.always_own i h in (c, t, own_into s c o, e);
  }

  -- a system, with its states and moves
  abbrev pub carried_system : System A → System B
  carried_system M = record {
    State = M.State;
    start = M.start;
    next = M.next;
    holds = M.holds;
    next_known = λ x c y e. known s c (M.next_known x c y e);
    start_holds = M.start_holds;
    next_holds = M.next_holds;
  }
