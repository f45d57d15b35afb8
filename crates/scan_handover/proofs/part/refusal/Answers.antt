-- `scan_handover::part::refusal` meets its contract: 5, and then 4.
use Prim.Native.Nat.{◌+◌, ◌-◌, ◌≤◌, ◌<◌}
use mathlib.Core.Path.{refl}
use native.Mathlib.Omega.{arith}
use Rattle.answers.specs.Numbers.{limit}
use borrow.Author.Tests.{lt-ltb, le-ltb}
use Rattle.scan_calls.proofs.Chains.{yes, no, refuses, passes}
use Rattle.scan_handover.proofs.part.refusal.Goals as goal

pub returns-then-first-end : goal.returns-then-first-end
returns-then-first-end c =
    let large : limit ≤ c.args.first + c.args.end - 1 = omega (arith, c.if-first-end.true, c.requires.0, c.requires.2) in
    no refl _ (le-ltb _ _ large) refl

pub returns-then-not-finite_between : goal.returns-then-not-finite_between
returns-then-not-finite_between c =
    let small : c.args.first + c.args.end - 1 < limit = omega (arith, c.if-first-end.false, c.requires.0, c.requires.2) in
    yes refl _ (lt-ltb _ _ small) (refuses c.finite_between.ensures 4 _ c.if-not-finite_between.true-raw)

pub returns : goal.returns
returns c =
    let small : c.args.first + c.args.end - 1 < limit = omega (arith, c.if-first-end.false, c.requires.0, c.requires.2) in
    yes refl _ (lt-ltb _ _ small) (passes c.finite_between.ensures 4 c.if-not-finite_between.false-raw refl)
