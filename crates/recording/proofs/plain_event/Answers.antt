-- `recording::plain_event` meets its contract.
use mathlib.Core.Path.{◌∙◌}
use Rattle.recording.proofs.Laws.{then_some_picks}
use Rattle.recording.proofs.plain_event.Goals as goal

pub returns : goal.returns
returns c = c.then_some.ensures ∙ then_some_picks _ _ ∙ rw c.unused.ensures
