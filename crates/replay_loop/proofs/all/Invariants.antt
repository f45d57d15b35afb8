-- What every turn leaves: windows within their rooms, a sink that fits its room, and the history of the turns so far.
use Rattle.scan_score.specs.Observing.{lent}
use Rattle.replay_inputs.specs.Inputs.{AllWithin}
use Rattle.replay_sink.specs.Sink.{Fits}
use Rattle.replay_loop.specs.Turns.{Played}
use Rattle.replay_loop.proofs.all.Given as goal

abbrev pub invariant-loop-turn : goal.invariant-loop-turn
invariant-loop-turn l =
    (AllWithin l.stream.inputs)
    × (Fits l.stream.sink l.room)
    × (Played l.header l.initial.stream (lent l.initial.envelope l.initial.levels l.initial.window l.initial.prefix l.initial.squares l.initial.scores l.initial.lag_sums) l.initial.events l.initial.far l.initial.near l.initial.room l.stream (lent l.envelope l.levels l.window l.prefix l.squares l.scores l.lag_sums) l.events l.far l.near l.room)
