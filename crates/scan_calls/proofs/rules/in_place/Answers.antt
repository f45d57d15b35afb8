-- `scan_calls::rules::in_place` meets its contract: the last index is compared with the place of the last sample.
use Prim.Native.Nat.{◌+◌, ◌*◌}
use mathlib.Core.Path.{refl, sym, ◌∙◌}
use mathlib.Core.Bool.{true}
use native.Mathlib.Omega.{arith}
use Rattle.scan.specs.State.{taken}
use Rattle.scan_calls.proofs.Chains.{yes, no}
use Rattle.scan_calls.proofs.Passing.{blocks_small, some_taken, one_below}
use Rattle.scan_calls.proofs.rules.in_place.Goals as goal

pub returns-then-idle : goal.returns-then-idle
returns-then-idle c = yes c.idle.ensures _ c.if-idle.true refl

pub overflow_mul-taken : goal.overflow_mul-taken
overflow_mul-taken c = omega (arith, blocks_small c.args.g c.args.n c.requires)

pub overflow_add-taken : goal.overflow_add-taken
overflow_add-taken c = omega (arith, blocks_small c.args.g c.args.n c.requires, c.requires.count)

pub overflow_add-result : goal.overflow_add-result
overflow_add-result c = omega (arith, blocks_small c.args.g c.args.n c.requires, c.requires.count, c.requires.start)

pub overflow_sub-result : goal.overflow_sub-result
overflow_sub-result c =
    let t = some_taken c.args.g c.args.n c.requires.some_decimation (sym c.idle.ensures ∙ c.if-idle.false) in
    omega (arith, t)

pub returns : goal.returns
returns c =
    let e = sym c.idle.ensures ∙ c.if-idle.false in
    let t = some_taken c.args.g c.args.n c.requires.some_decimation e in
    no c.idle.ensures true c.if-idle.false (one_below c.args.n.last (c.args.n.first * c.args.g.decimation + taken c.args.g c.args.n) (omega (arith, t)))
