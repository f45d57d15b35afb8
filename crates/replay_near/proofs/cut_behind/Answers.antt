-- `cut_behind` meets its contract: by whether the sample was refused.
use Rattle.answers.proofs.Cases.{cases}
use Rattle.replay_near.proofs.cut_behind.Goals as goal

pub returns-then-one : goal.returns-then-one
returns-then-one c = search cases

pub returns-else-one : goal.returns-else-one
returns-else-one c = search cases
