-- `recording::decode_by` meets its contract: what the loop passed are the samples.
use mathlib.Core.Path.{refl}
use native.Mathlib.Omega.{arith}
use lib.ListN.{length-take}
use Rattle.recording.specs.Samples.{samples_in}
use Rattle.recording.proofs.Laws.{decode_more, decode_all}
use Rattle.recording.proofs.decode_by.Goals as goal

pub loop-k-init : goal.loop-k-init
unfolding samples_in
loop-k-init g c = refl

pub sample-requires : goal.sample-requires
sample-requires g c = c.requires.readable _ (omega (arith, length-take c.min-n.result c.args.out.now, rw c.width.ensures.0 at c.min-n.ensures))

pub loop-k-preserved : goal.loop-k-preserved
loop-k-preserved g c =
    decode_more c.args.form c.args.s.now _ _ _ (omega arith) c.loop-k.invariant (c.requires.reads _ _ c.sample.ensures)

pub returns : goal.returns
returns g c =
    decode_all c.args.form c.args.s.now c.args.out.now _ _ _ (rw c.width.ensures.0 at c.min-n.ensures) c.loop-k.auto.place-items (omega arith) c.loop-k-test.false c.loop-k.invariant
