-- `wav::format_with` meets its contract.
use Rattle.answers.proofs.Cases.{cases}
use Rattle.wav.proofs.format_with.Goals as goal

pub returns : goal.returns
returns c = search (cases, ← c.u16_at.ensures, ← c.u32_at.ensures, ← c.u16_at-2.ensures, ← c.u16_at-3.ensures)
