-- `log_says::put_should` meets its contract.
use Rattle.log_says.specs.Says.{should_text}
use Rattle.log_says.proofs.put_should.Goals as goal

pub returns-in-Some : goal.returns-in-Some
returns-in-Some c = rw c.in-Some.is c.put_right.ensures

pub returns-in-None : goal.returns-in-None
unfolding should_text
returns-in-None c = rw c.in-None.is c.put.ensures
