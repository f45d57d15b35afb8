-- `recording_make::fits` meets its contract.
use Rattle.answers.proofs.Cases.{cases}
use Rattle.recording_make.specs.Making.{fitting}
use Rattle.recording_make.proofs.fits.Goals as goal

pub returns-then-not-allowed_rate : goal.returns-then-not-allowed_rate
unfolding fitting
returns-then-not-allowed_rate c = search (cases, ← c.allowed_rate.ensures)

pub returns : goal.returns
unfolding fitting
returns c = search (cases, ← c.allowed_rate.ensures, ← c.within_limit.ensures)
