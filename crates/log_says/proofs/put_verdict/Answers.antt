-- `log_says::put_verdict` meets its contract.
use Rattle.log_says.proofs.Lengths.{put_nothing}
use Rattle.log_says.specs.Says.{apart_text}
use Rattle.log_says.specs.Calls.{said_text}
use Rattle.log_says.proofs.put_verdict.Goals as goal

pub returns-in-Going : goal.returns-in-Going
unfolding said_text
returns-in-Going c = rw c.in-Going.is (put_nothing _ _)

pub returns-in-Accepted : goal.returns-in-Accepted
unfolding said_text apart_text
returns-in-Accepted c = rw c.in-Accepted.is c.put.ensures

pub returns-in-Wrong : goal.returns-in-Wrong
unfolding said_text apart_text
returns-in-Wrong c = rw c.in-Wrong.is c.put_wrong.ensures
