-- `folds::search_down` meets its contract. Invariant: what was found is what the definition finds behind the values that are still to come.
use Rattle.std.proofs.Common.{true, false, ◌∙◌, arith}
use Rattle.std.specs.Slice.Iter.{iter_rest}
use lib.Ieee.{of_bits}
use Rattle.answers.specs.Pick.{pick}
use Rattle.folds.specs.Search.{search_down}
use Rattle.folds.proofs.Peaks.{nothing_met, one_met, all_met}
use Rattle.folds.proofs.search_down.Goals as goal

pub loop-k-init : goal.loop-k-init
unfolding of_bits
loop-k-init c = (cc, nothing_met c.args.xs.now _ (cc))

pub loop-k-preserved-then-v-value : goal.loop-k-preserved-then-v-value
unfolding pick
loop-k-preserved-then-v-value c =
    let s = c.in-Some.ensures.steps in
    let n = c.next.new.self.iter.iter in
    (s.0 ∙ c.loop-k.invariant.0, one_met c.args.xs.now _ (iter_rest n) _ _ _ true s.1.0 (omega (arith, s.1.1, c.loop-k.invariant.0)) c.if-v-value.true c.loop-k.invariant.1)

pub loop-k-preserved : goal.loop-k-preserved
unfolding pick
loop-k-preserved c =
    let s = c.in-Some.ensures.steps in
    let n = c.next.new.self.iter.iter in
    (s.0 ∙ c.loop-k.invariant.0, one_met c.args.xs.now _ (iter_rest n) c.in-Some.k _ _ false s.1.0 (omega (arith, s.1.1, c.loop-k.invariant.0)) c.if-v-value.false c.loop-k.invariant.1)

pub returns : goal.returns
unfolding search_down
returns c = all_met c.args.xs.now _ _ c.in-None.ensures.steps.1.0 c.loop-k.invariant.1
