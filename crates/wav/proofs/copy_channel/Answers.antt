-- `wav::copy_channel` meets its contract: what the loop passed are the channel's bytes, and the rest of the room is as it was.
use borrow.Author.Rules.{rules}
use mathlib.Core.Path.{refl}
use native.Mathlib.Omega.{arith}
use lib.ListN.{length, length-set}
use Rattle.wav.specs.Channel.{channel_bytes}
use Rattle.wav.proofs.Frames.{place_within, bytes_more, rest_more, bytes_all}
use Rattle.wav.proofs.copy_channel.Goals as goal

pub loop-i-init : goal.loop-i-init
unfolding channel_bytes
loop-i-init c = (search rules, refl, refl, refl)

pub nonzero_div-out : goal.nonzero_div-out
nonzero_div-out c = omega (arith, c.requires.some)

pub overflow_mul-out : goal.overflow_mul-out
overflow_mul-out c =
    let a = c.args in
    let i = c.loop-i.i in
    omega (arith, place_within a.width a.frame a.before a.n (length a.frames.now) (length a.out.now) i c.requires c.loop-i-test.true)

pub overflow_add-out : goal.overflow_add-out
overflow_add-out c =
    let a = c.args in
    let i = c.loop-i.i in
    omega (arith, place_within a.width a.frame a.before a.n (length a.frames.now) (length a.out.now) i c.requires c.loop-i-test.true)

pub nonzero_rem-out : goal.nonzero_rem-out
nonzero_rem-out c = omega (arith, c.requires.some)

pub overflow_add-out-in-loop-i : goal.overflow_add-out-in-loop-i
overflow_add-out-in-loop-i c =
    let a = c.args in
    let i = c.loop-i.i in
    omega (arith, place_within a.width a.frame a.before a.n (length a.frames.now) (length a.out.now) i c.requires c.loop-i-test.true)

pub bounds-frames-i : goal.bounds-frames-i
bounds-frames-i c =
    let a = c.args in
    let i = c.loop-i.i in
    omega (arith, place_within a.width a.frame a.before a.n (length a.frames.now) (length a.out.now) i c.requires c.loop-i-test.true)

pub bounds-out-i : goal.bounds-out-i
bounds-out-i c = omega (arith, c.requires.fits)

pub loop-i-preserved : goal.loop-i-preserved
loop-i-preserved c =
    let now = c.loop-i in
    let from = c.args in (
      omega arith,
      simp length-set now.invariant.1,
      bytes_more from.width from.frame from.before from.frames.now now.out now.i (omega (arith, c.requires.fits)) now.invariant.2,
      rest_more now.out from.out.now now.i _ now.invariant.3,
    )

pub shape_of-out : goal.shape_of-out
shape_of-out c = c.loop-i.invariant.1

pub returns : goal.returns
returns c =
    let end = c.loop-i in
    let from = c.args in
    bytes_all from.width from.frame from.before from.frames.now end.out from.out.now from.n end.i end.invariant.0 c.loop-i-test.false end.invariant.2 end.invariant.3
