-- `wav::take_channel` meets its contract.
use borrow.Author.Rules.{rules}
use native.Mathlib.Omega.{arith}
use Rattle.wav.proofs.Laws.{width_some, frame_most, frame_some}
use Rattle.wav.proofs.Frames.{none_taken, reachable, all_taken}
use Rattle.wav.proofs.take_channel.Goals as goal

pub returns-then-channels-channel : goal.returns-then-channels-channel
returns-then-channels-channel c =
    let a = c.args in
    none_taken a.kind a.channels a.channel a.frames.now a.out.now c.if-channels-channel.true

pub nonzero_div-frames : goal.nonzero_div-frames
nonzero_div-frames c =
    let a = c.args in
    rw c.frame_of-frame.ensures (frame_some a.kind a.channels (omega arith))

pub nonzero_div-out : goal.nonzero_div-out
nonzero_div-out c =
    let a = c.args in
    rw c.width_of-width.ensures (width_some a.kind)

pub overflow_mul-width : goal.overflow_mul-width
overflow_mul-width c =
    let a = c.args in
    rw c.width_of-width.ensures (omega (arith, frame_most a.kind a.channel (search rules)))

pub overflow_mul-width-2 : goal.overflow_mul-width-2
overflow_mul-width-2 c =
    let a = c.args in
    omega (arith, (reachable a.kind a.channels a.channel a.frames.now a.out.now _ _ _ c.width_of-width.ensures c.frame_of-frame.ensures c.if-channels-channel.false c.min-n.ensures).fits)

pub copy_channel-requires : goal.copy_channel-requires
copy_channel-requires c =
    let a = c.args in
    reachable a.kind a.channels a.channel a.frames.now a.out.now _ _ _ c.width_of-width.ensures c.frame_of-frame.ensures c.if-channels-channel.false c.min-n.ensures

pub returns : goal.returns
returns c =
    let a = c.args in
    all_taken a.kind a.channels a.channel a.frames.now a.out.now _ _ _ c.width_of-width.ensures c.frame_of-frame.ensures c.if-channels-channel.false c.min-n.ensures _ c.copy_channel.ensures
