-- `recording_store::float_at` meets its contract.
use mathlib.Core.Path.{ap, ◌∙◌}
use lib.Ieee.{binary32, to_bits}
use Rattle.recording_shorts.specs.Shorts.{short_sample, quotient_bits}
use Rattle.std.specs.Prelude.{Some}
use Rattle.recording_store.proofs.float_at.Goals as goal

pub returns : goal.returns
unfolding quotient_bits
returns c = ap Some (c.pattern32.ensures ∙ ap (to_bits binary32) (c.value.ensures ∙ ap short_sample c.u16_at.ensures))
