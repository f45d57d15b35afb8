-- `replay_sink::goes_on` meets its contract.
use Rattle.replay_sink.proofs.Sinks.{open_writes, open_checks}
use Rattle.replay_sink.proofs.goes_on.Goals as goal

pub returns-in-Writes : goal.returns-in-Writes
returns-in-Writes c = λ e. open_writes _ _ c.in-Writes.is

pub returns-in-Checks : goal.returns-in-Checks
returns-in-Checks c = λ e. open_checks _ _ c.in-Checks.is (c.on_its_way.ensures e)
