-- `convert_host::judging::turn` meets its contract.
use Rattle.convert_host.proofs.judging.turn.Goals as goal

pub returns-in-None : goal.returns-in-None
returns-in-None c = rw c.lacking.ensures c.fill-side.ensures

pub returns-in-Some : goal.returns-in-Some
returns-in-Some c = rw c.judged.ensures c.past.ensures
