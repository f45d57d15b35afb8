-- `scan_pair_calls::reports::frames` meets its contract.
use mathlib.Core.Path.{ap, ◌∙◌}
use Rattle.scan.specs.Calls.{frames_of}
use Rattle.scan_pair.specs.Calls.{pair_frames}
use Rattle.scan_pair_calls.proofs.Calls.{on_none, on_side}
use Rattle.scan_pair_calls.proofs.reports.frames.Goals as goal

pub returns-then-channel-ge2 : goal.returns-then-channel-ge2
unfolding pair_frames
returns-then-channel-ge2 c = on_none c.args.channel _ _ c.if-channel-ge2.true

pub returns : goal.returns
unfolding pair_frames
returns c = c.frames.ensures ∙ ap frames_of c.scan_of.ensures ∙ on_side c.args.channel _ _ c.if-channel-ge2.false
