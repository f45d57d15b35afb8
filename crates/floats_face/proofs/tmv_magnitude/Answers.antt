-- `floats_face::tmv_magnitude` meets its contract: by the law of the sign.
use Prim.Native.Nat.{◌%◌, ◌^◌}
use mathlib.Core.Path.{ap, ◌∙◌}
use lib.Ieee.{Float, binary64}
use Rattle.words.specs.Words.{pattern_of}
use Rattle.floats.specs.Functions as functions
use Rattle.floats_face.proofs.Patterns.{sign_clears}
use Rattle.floats_face.proofs.tmv_magnitude.Goals as goal

pub returns : goal.returns
returns c =
    let b = c.args.bits in
    c.pattern.ensures
    ∙ ap (λ (x : Float). pattern_of binary64 (b % 2 ^ 63) x) (c.magnitude.ensures ∙ ap functions.magnitude c.float64.ensures)
    ∙ sign_clears b c.ranges.bits.fits
