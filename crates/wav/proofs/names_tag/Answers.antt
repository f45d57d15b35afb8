-- `wav::names_tag` meets its contract: test by test.
use Rattle.answers.proofs.Cases.{cases}
use Rattle.wav.specs.Wave.{names_tag}
use Rattle.wav.proofs.names_tag.Goals as goal

pub returns-then-u16_at-ne0 : goal.returns-then-u16_at-ne0
unfolding names_tag
returns-then-u16_at-ne0 c = search (cases, ← c.u16_at.ensures)

pub returns-then-u32_at-ne1048576 : goal.returns-then-u32_at-ne1048576
unfolding names_tag
returns-then-u32_at-ne1048576 c = search (cases, ← c.u16_at.ensures, ← c.u32_at.ensures)

pub returns-then-u32_at : goal.returns-then-u32_at
unfolding names_tag
returns-then-u32_at c = search (cases, ← c.u16_at.ensures, ← c.u32_at.ensures, ← c.u32_at-2.ensures)

pub returns : goal.returns
unfolding names_tag
returns c = search (cases, ← c.u16_at.ensures, ← c.u32_at.ensures, ← c.u32_at-2.ensures, ← c.u32_at-3.ensures)
