use Rattle.answers.proofs.Cases.{cases}
use Rattle.fine.specs.Calls.{samples_reported}
use Rattle.fine.proofs.SamplesReport.of.Goals as goal

pub returns-then-refusal-ne0 : goal.returns-then-refusal-ne0
unfolding samples_reported
returns-then-refusal-ne0 c = search cases

pub returns : goal.returns
unfolding samples_reported
returns c = search cases
