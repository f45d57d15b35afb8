-- `wav::sound_of` meets its contract: test by test; a frame is not empty.
use mathlib.Core.Path.{sym, ◌∙◌}
use native.Mathlib.Omega.{arith}
use Rattle.answers.proofs.Cases.{cases}
use Rattle.wav.proofs.Laws.{width_most, aligned, sound_opened}
use Rattle.wav.specs.Wave.{sound_of}
use Rattle.wav.proofs.sound_of.Goals as goal

pub overflow_mul-width_of : goal.overflow_mul-width_of
overflow_mul-width_of c = omega (arith, width_most c.args.kind, c.width_of.ensures)

pub returns-then-f-width_of : goal.returns-then-f-width_of
unfolding sound_of
returns-then-f-width_of c = search (cases, ← c.width_of.ensures)

pub returns-then-not-whole_frame : goal.returns-then-not-whole_frame
unfolding sound_of
returns-then-not-whole_frame c = search (cases, ← c.width_of.ensures, ← c.whole_frame.ensures)

pub returns-then-not-allowed_rate : goal.returns-then-not-allowed_rate
unfolding sound_of
returns-then-not-allowed_rate c = search (cases, ← c.width_of.ensures, ← c.whole_frame.ensures, ← c.allowed_rate.ensures)

pub returns-then-length-at : goal.returns-then-length-at
unfolding sound_of
returns-then-length-at c = search (cases, ← c.width_of.ensures, ← c.whole_frame.ensures, ← c.allowed_rate.ensures)

pub nonzero_rem-size : goal.nonzero_rem-size
nonzero_rem-size c = omega (arith, aligned _ _ _ (sym c.whole_frame.ensures ∙ c.if-not-whole_frame.false))

pub returns-then-size-align-ne0 : goal.returns-then-size-align-ne0
unfolding sound_of
returns-then-size-align-ne0 c = search (cases, ← c.width_of.ensures, ← c.whole_frame.ensures, ← c.allowed_rate.ensures)

pub nonzero_div-result : goal.nonzero_div-result
nonzero_div-result c = omega (arith, aligned _ _ _ (sym c.whole_frame.ensures ∙ c.if-not-whole_frame.false))

pub returns : goal.returns
returns c =
    let a = c.args in
    sym (
    sound_opened a.kind a.f a.at a.size a.length
    (search (cases, ← c.width_of.ensures))
    (search (cases, ← c.whole_frame.ensures))
    (search (cases, ← c.allowed_rate.ensures))
    (search (cases))
    (search (cases))
    )
