-- `scan_words::answering::place` meets its contract.
use mathlib.Core.Path.{refl}
use Rattle.scan_words.proofs.answering.place.Goals as goal

pub returns : goal.returns
returns c = refl
