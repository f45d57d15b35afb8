-- `scan_runs::stretch` meets its contract.
use Rattle.std.proofs.Common.{◌≡◌, ◌<◌, length, refl, ap, ◌∙◌, arith}
use Rattle.std.proofs.lemmas.Bool.Decides.{nat_tests}
use lib.Ieee.Scale.{finite}
use Rattle.scan_calls.proofs.Chains.{yes, no}
use borrow.Author.Tests.{not-true, not-false}
use Rattle.scan_runs.proofs.Stretching.{stretched_none}
use Rattle.scan_runs.proofs.stretch.Goals as goal

pub returns-then-is_empty : goal.returns-then-is_empty
returns-then-is_empty c =
    let a = c.args in
    let none : length a.samples.now ≡ 0 = grind (arith, nat_tests) in
    stretched_none a.n a.samples.now none

pub returns-then-not-is_finite : goal.returns-then-not-is_finite
returns-then-not-is_finite c = no (c.is_finite.ensures ∙ ap finite c.total-sum.ensures) _ (not-true _ c.if-not-is_finite.true-raw) refl

pub overflow_add-result-2 : goal.overflow_add-result-2
overflow_add-result-2 c =
    let some : 0 < length c.args.samples.now = grind (arith, nat_tests) in
    omega (arith, c.requires.1 some)

pub returns : goal.returns
returns c =
    let t = c.total-sum.ensures in
    yes (c.is_finite.ensures ∙ ap finite t) _ (not-false _ c.if-not-is_finite.false-raw) (rw t)
