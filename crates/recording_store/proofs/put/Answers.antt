-- `recording_store::put` meets its contract: the bytes that are left to be written are those of what is left of the number.
use mathlib.Core.Path.{refl, sym, ◌∙◌}
use native.Mathlib.Omega.{arith}
use lib.ListN.{length-set}
use Rattle.recording_store.proofs.Laws.{put_none, put_more, put_all}
use Rattle.recording_store.proofs.put.Goals as goal

pub loop-i-init : goal.loop-i-init
loop-i-init c = (omega arith, refl, put_none c.args.out.now c.args.at c.args.width c.args.number)

pub loop-i-smaller : goal.loop-i-smaller
loop-i-smaller c = omega arith

pub loop-i-preserved : goal.loop-i-preserved
loop-i-preserved c =
    let now = c.loop-i in
    let from = c.args in
    (omega arith, simp length-set now.invariant.1, sym (put_more now.out from.at now.i from.width now.rest (omega arith)) ∙ now.invariant.2)

pub shape_of-out : goal.shape_of-out
shape_of-out c = c.loop-i.invariant.1

pub returns : goal.returns
returns c =
    let end = c.loop-i in
    let from = c.args in
    sym (put_all end.out from.at end.i from.width end.rest (omega arith)) ∙ end.invariant.2
