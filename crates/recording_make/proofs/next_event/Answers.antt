-- `recording_make::next_event` meets its contract.
use native.Mathlib.Omega.{arith}
use mathlib.Core.Path.{sym, ◌∙◌}
use Rattle.recording_make.proofs.Laws.{limited, far_left}
use Rattle.answers.proofs.Cases.{cases}
use Rattle.recording_make.specs.Making.{step_of}
use Rattle.recording_make.proofs.next_event.Goals as goal

pub returns-then-not-fits : goal.returns-then-not-fits
unfolding step_of
returns-then-not-fits c = search (cases, ← c.fits.ensures, ← c.over.ensures)

pub piece_from-count-requires : goal.piece_from-count-requires
piece_from-count-requires c = far_left _ _ (sym c.fars_turn.ensures ∙ c.if-fars_turn.true)

pub returns-then-fars_turn : goal.returns-then-fars_turn
unfolding step_of
returns-then-fars_turn c = search (cases, ← c.fits.ensures, ← c.fars_turn.ensures, ← c.piece_from-count.ensures)

pub returns-then-h-used : goal.returns-then-h-used
unfolding step_of
returns-then-h-used c = search (cases, ← c.fits.ensures, ← c.fars_turn.ensures, ← c.over-then-h-used.ensures)

pub overflow_add-result-2 : goal.overflow_add-result-2
overflow_add-result-2 c = omega (arith, limited _ (sym c.fits.ensures ∙ c.if-not-fits.false))

pub returns : goal.returns
unfolding step_of
returns c = search (cases, ← c.fits.ensures, ← c.fars_turn.ensures, ← c.piece_from-count-2.ensures)
