-- `floats_face::tmv_is_finite32` meets its contract: by the pattern's float.
use Rattle.std.proofs.Common.{ap, ◌∙◌}
use lib.Ieee.Scale.{finite}
use Rattle.words.proofs.Back.{flagged}
use Rattle.words.specs.Words.{flag_of}
use Rattle.floats_face.proofs.tmv_is_finite32.Goals as goal

pub returns : goal.returns
returns c = c.from.ensures ∙ flagged c.is_finite32.result ∙ ap flag_of (c.is_finite32.ensures ∙ ap finite c.float32.ensures)
