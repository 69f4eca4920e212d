use native.Mathlib.Omega.{arith}
use mathlib.Core.Path.{◌≡◌, sym, ◌∙◌, refl}
use mathlib.Core.Logic.{inl, inr}
use Prim.Native.Nat.{ℕ}
use borrow.Author.Rules.{rules}
use Rattle.clocks_safe.proofs.visit.Goals as goal

pub returns-then-not-get : goal.returns-then-not-get
returns-then-not-get c =
    let get-call = c.get in
    inl (
      refl,
      refl,
      λ e. let z : ◌≡◌ {A = ℕ} 0 1 =
          cc (e, get-call.ensures, c.if-not-get.true) in absurd (omega arith),
    )

pub returns-then-passes : goal.returns-then-passes
returns-then-passes c = inl (refl, refl, λ e. sym c.passes.ensures ∙ c.if-passes.true)

pub clear-requires : goal.clear-requires
clear-requires c =
    let get-call = c.get in
    let if1 = c.if-not-get in
    (search rules, sym get-call.ensures ∙ if1.false)

pub returns : goal.returns
returns c =
    let get-call = c.get in
    let if1 = c.if-not-get in
    let passes-call = c.passes in
    let if2 = c.if-passes in
    inr (
      refl,
      c.clear.ensures,
      sym get-call.ensures
          ∙ if1.false,
      sym passes-call.ensures ∙ if2.false,
    )
