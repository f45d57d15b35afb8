-- `replay_sink::closed_if` meets its contract.
use Rattle.replay_sink.proofs.Sinks.{closed_on, closed_off}
use Rattle.replay_sink.proofs.closed_if.Goals as goal

pub returns-then-over : goal.returns-then-over
returns-then-over c = (closed_on _ _ _ _ _ c.if-over.true c.close.ensures.0, c.close.ensures.1)

pub returns : goal.returns
returns c = (closed_off _ _ _ c.if-over.false, c.requires.0)
