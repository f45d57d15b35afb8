-- `wav::described` meets its contract: test by test, in the order of the definition.
use Rattle.answers.proofs.Cases.{cases}
use Rattle.wav.specs.Wave.{described}
use Rattle.wav.proofs.described.Goals as goal

pub returns-then-has-lt16 : goal.returns-then-has-lt16
unfolding described
returns-then-has-lt16 c = search (cases, ← c.u32_at-has.ensures)

pub returns-then-tag : goal.returns-then-tag
unfolding described
returns-then-tag c = search (cases, ← c.u32_at-has.ensures, ← c.u32_at-size.ensures, ← c.u16_at-tag.ensures, ← c.format_with.ensures, ← c.judged.ensures)

pub returns-then-has-lt40 : goal.returns-then-has-lt40
unfolding described
returns-then-has-lt40 c = search (cases, ← c.u32_at-has.ensures, ← c.u32_at-size.ensures, ← c.u16_at-tag.ensures)

pub returns-then-not-names_tag : goal.returns-then-not-names_tag
unfolding described
returns-then-not-names_tag c = search (cases, ← c.u32_at-has.ensures, ← c.u32_at-size.ensures, ← c.u16_at-tag.ensures, ← c.names_tag.ensures)

pub returns : goal.returns
unfolding described
returns c = search (cases, ← c.u32_at-has.ensures, ← c.u32_at-size.ensures, ← c.u16_at-tag.ensures, ← c.names_tag.ensures, ← c.u16_at-sub.ensures, ← c.format_with-2.ensures, ← c.judged-2.ensures)
