-- `face::setting_first` meets its contract.
use Rattle.answers.proofs.Cases.{cases}
use Rattle.face.specs.Face.{setting_first}
use Rattle.face.proofs.setting_first.Goals as goal

pub returns-then-not-allowed : goal.returns-then-not-allowed
unfolding setting_first
returns-then-not-allowed c = search cases

pub returns-then-not-fitting : goal.returns-then-not-fitting
unfolding setting_first
returns-then-not-fitting c = search cases

pub returns : goal.returns
unfolding setting_first
returns c = search cases
