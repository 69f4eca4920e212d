-- What the stages of an edge keep, one after another, is what was read of the edge; where the last gives no fault, it
-- is the edge.
use Rattle.std.specs.Prelude.{◌≡◌, Bool, false, List, ℕ, Result, Ok, Err}
use Rattle.std.proofs.Common.{refl}
use Rattle.reader_tokens.specs.Kinds as kinds
use Rattle.reader_record.specs.declared.Name.{Name}
use Rattle.reader_record.specs.declared.Channel.{Channel}
use Rattle.reader_parts.specs.declared.Fault.{Fault}
use Rattle.reader_parts.specs.declared.Use.{Use}
use Rattle.reader_parts.specs.Stages.{◌>>=◌, onward, take}
use Rattle.reader_parts.specs.Names.{use_name}
use Rattle.reader_parts.specs.Slots.{first_location}
use Rattle.reader_parts.specs.SoFar.{beside}
use Rattle.reader_constraints.specs.declared.ConstraintRead.{ConstraintRead}
use Rattle.reader_constraints.specs.Constraints.{guard}
use Rattle.reader_constraints.specs.SoFar.{optional_so_far}
use Rattle.reader_edges.specs.declared.LabelRead.{LabelRead}
use Rattle.reader_edges.specs.declared.AssignsRead.{AssignsRead}
use Rattle.reader_edges.specs.declared.EdgeSoFar.{EdgeSoFar}
use Rattle.reader_edges.specs.Labels.{label_next}
use Rattle.reader_edges.specs.Assigns.{assigns}
use Rattle.reader_edges.specs.Edges.{edge_next}
use Rattle.reader_edges.specs.SoFar.{label_so_far, assigns_so_far, edge_so_far}
use Rattle.reader_edges.specs.Parts.{no_edge, located, opened, guarded, guard_end, labelled, label_end}
use Rattle.reader_edges.specs.Parts.{assigned, assigns_end}
use Rattle.limits.specs.Limits.{location_limit}

module _
    (period : ℕ) (s : List ℕ) (at : Result ℕ Fault) (names : List Name) (channels : List Channel) (over : Bool)
  where
    -- the places behind the stages
    abbrev pub at_guard : Result ℕ Fault
    at_guard = opened s at names over

    abbrev pub at_label : Result ℕ Fault
    at_label = guard_end period s at_guard names

    abbrev pub at_assigns : Result ℕ Fault
    at_assigns = label_end s at_label names channels

    abbrev pub at_close : Result ℕ Fault
    at_close = assigns_end period s at_assigns names

    abbrev pub closed : Result ℕ Fault
    closed = at_close >>= λ p. take s p kinds.closes

    -- the edge as it is kept
    abbrev pub kept : EdgeSoFar
    kept = assigned period s at_assigns names (labelled s at_label names channels (guarded period s at_guard names
        (located s at names over no_edge)))

    -- both in one
    abbrev Same : Type 0
    Same = (kept ≡ edge_so_far period s at names channels over)
        × (onward (λ p. edge_next period s p names channels over) at
        ≡ (closed >>= λ q. Ok (record { channel = kept.channel; input = kept.input; edge = kept.edge; end = q })))

    pub edge_parts : Same
    unfolding no_edge located opened guarded guard_end labelled label_end assigned assigns_end edge_so_far edge_next
        optional_so_far label_so_far assigns_so_far
    edge_parts = from at refl
      where
        from : (a : Result ℕ Fault) → at ≡ a → Same
        from (Err f) e0 = rw e0 (refl, refl)
        from (Ok p) e0 = source (use_name s p names first_location location_limit over) refl
          where
            source : (a : Result Use Fault) → use_name s p names first_location location_limit over ≡ a → Same
            source (Err f) e1 = rw (e0, e1) (refl, refl)
            source (Ok u) e1 = arrow (take s u.end kinds.arrow) refl
              where
                arrow : (a : Result ℕ Fault) → take s u.end kinds.arrow ≡ a → Same
                arrow (Err f) e2 = rw (e0, e1, e2) (refl, refl)
                arrow (Ok a) e2 = target (use_name s a names first_location location_limit false) refl
                  where
                    target : (b : Result Use Fault) → use_name s a names first_location location_limit false ≡ b → Same
                    target (Err f) e3 = rw (e0, e1, e2, e3) (refl, refl)
                    target (Ok v) e3 = opens (take s v.end kinds.opens) refl
                      where
                        opens : (b : Result ℕ Fault) → take s v.end kinds.opens ≡ b → Same
                        opens (Err f) e4 = rw (e0, e1, e2, e3, e4) (refl, refl)
                        opens (Ok b) e4 = given (guard period s b names) refl
                          where
                            given : (g : Result ConstraintRead Fault) → guard period s b names ≡ g → Same
                            given (Err f) e5 = rw (e0, e1, e2, e3, e4, e5) (refl, refl)
                            given (Ok g) e5 = label (label_next s g.end names channels) refl
                              where
                                label : (l : Result LabelRead Fault) → label_next s g.end names channels ≡ l → Same
                                label (Err f) e6 = rw (e0, e1, e2, e3, e4, e5, e6) (refl, refl)
                                label (Ok l) e6 = last (assigns period s l.end names) refl
                                  where
                                    last : (z : Result AssignsRead Fault) → assigns period s l.end names ≡ z → Same
                                    last (Err f) e7 = rw (e0, e1, e2, e3, e4, e5, e6, e7) (refl, refl)
                                    last (Ok z) e7 = rw (e0, e1, e2, e3, e4, e5, e6, e7) (refl, refl)

    -- where the token behind the edge is refused, or a stage before
    pub edge_stopped : {f : Fault} → closed ≡ Err f
        → Err (record { fault = f; read = kept })
        ≡ beside (edge_so_far period s at names channels over)
        (onward (λ p. edge_next period s p names channels over) at)
    edge_stopped h = rw (← edge_parts.0, edge_parts.1, h) refl

    -- where it is taken
    pub edge_read : {q : ℕ} → closed ≡ Ok q
        → Ok (record { channel = kept.channel; input = kept.input; edge = kept.edge; end = q })
        ≡ beside (edge_so_far period s at names channels over)
        (onward (λ p. edge_next period s p names channels over) at)
    edge_read h = rw (edge_parts.1, h) refl
