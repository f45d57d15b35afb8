-- `recording_shorts::quotient_bits` meets its contract.
use mathlib.Core.Path.{ap, ◌∙◌}
use lib.Ieee.{binary32, to_bits}
use Rattle.recording_shorts.specs.Shorts.{quotient_bits}
use Rattle.recording_shorts.proofs.quotient_bits.Goals as goal

pub returns : goal.returns
unfolding quotient_bits
returns c = c.pattern32.ensures ∙ ap (to_bits binary32) c.value.ensures
