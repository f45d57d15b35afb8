-- `log_passes::passing::first_sought` meets its contract.
use Rattle.log_passes.specs.Passing.{first_sought}
use Rattle.log_passes.proofs.passing.first_sought.Goals as goal

pub returns-in-Here : goal.returns-in-Here
unfolding first_sought
returns-in-Here c = rw c.in-Here.is c.step_of.ensures

pub returns-in-Other : goal.returns-in-Other
unfolding first_sought
returns-in-Other c = rw c.in-Other.is c.step_of-in-Other.ensures

pub returns-in-Nothing : goal.returns-in-Nothing
unfolding first_sought
returns-in-Nothing c = rw c.in-Nothing.is c.step_of-in-Nothing.ensures

pub returns-in-Wants : goal.returns-in-Wants
unfolding first_sought
returns-in-Wants c = rw c.in-Wants.is c.step_of-in-Wants.ensures

pub returns-in-Strange : goal.returns-in-Strange
unfolding first_sought
returns-in-Strange c = rw c.in-Strange.is c.step_of-in-Strange.ensures
