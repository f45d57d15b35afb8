-- `floats_face::tmv_is_finite` meets its contract: by the pattern's float.
use Rattle.std.proofs.Common.{ap, ◌∙◌}
use lib.Ieee.Scale.{finite}
use Rattle.words.proofs.Back.{flagged}
use Rattle.words.specs.Words.{flag_of}
use Rattle.floats_face.proofs.tmv_is_finite.Goals as goal

pub returns : goal.returns
returns c = c.from.ensures ∙ flagged c.is_finite.result ∙ ap flag_of (c.is_finite.ensures ∙ ap finite c.float64.ensures)
