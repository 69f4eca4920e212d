-- The bytes that are left to compare decide.
use native.Mathlib.Omega.{arith}
use mathlib.Core.Path.{◌≡◌, sym, ap, ◌∙◌}
use Prim.Native.Nat.{◌+◌, ◌-◌, ℕ}
use lib.ListN.{replicate}
use Rattle.writer_tokens.specs.Tokens.{underscore}
use Rattle.writer_names.specs.Names.{part, is_word}
use Rattle.writer_names.proofs.Words.{other_length, underscore_no, underscore_yes, underscore_none}
use Rattle.writer_names.proofs.are_underscores.Goals as goal

pub returns-then-len-u : goal.returns-then-len-u
returns-then-len-u c =
    let args = c.args in
    sym (other_length args.s.now args.place args.len args.u c.requires
    (λ e. absurd (omega (arith, e))))

pub loop-left-init : goal.loop-left-init
loop-left-init c =
    let args = c.args in
    let e : args.len ≡ args.u = omega arith in
    ap (λ (k : ℕ). is_word (part args.s.now args.place args.len) (replicate k underscore)) e

pub returns-then-not-is_last : goal.returns-then-not-is_last
returns-then-not-is_last c =
    let loop = c.loop-left in
    let args = c.args in
    let e : loop.left - 1 + 1 ≡ loop.left = omega arith in
    sym (underscore_no args.s.now args.place loop.left (omega arith) (omega arith)
    (rw e at (sym c.is_last.ensures ∙ c.if-not-is_last.true))) ∙ loop.invariant

pub loop-left-preserved : goal.loop-left-preserved
loop-left-preserved c =
    let loop = c.loop-left in
    let args = c.args in
    let e : loop.left - 1 + 1 ≡ loop.left = omega arith in
    sym (underscore_yes args.s.now args.place loop.left (omega arith) (omega arith)
    (rw e at (sym c.is_last.ensures ∙ c.if-not-is_last.false))) ∙ loop.invariant

pub returns : goal.returns
returns c =
    let loop = c.loop-left in
    let args = c.args in
    sym (underscore_none args.s.now args.place loop.left (omega arith)) ∙ loop.invariant
