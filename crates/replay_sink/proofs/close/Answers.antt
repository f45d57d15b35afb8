-- `replay_sink::close` meets its contract.
use mathlib.Core.Path.{refl}
use mathlib.Core.Logic.{inl, inr}
use Rattle.replay_sink.proofs.Sinks.{held_within}
use Rattle.replay_sink.proofs.close.Goals as goal

pub returns-then-on_its_way : goal.returns-then-on_its_way
returns-then-on_its_way c = (inl (c.on_its_way.ensures c.if-on_its_way.true, c.hold_next.ensures), held_within _ _ _ _ _ c.hold_next.ensures)

pub returns : goal.returns
returns c = (inr (refl, refl), c.requires.0)
