use Rattle.scan_score.specs.Observing.{lent}
use Rattle.replay_stream.specs.Stream.{next_line}
use Rattle.replay_stream.specs.Stream.{to_go}
use Rattle.replay_stream.proofs.Looping as looping
use Rattle.replay_stream.specs.Giving.{hand_of}
use Rattle.replay_runs.specs.Silences.{Inside}
use Rattle.replay_next.proofs.Taking.{Kept}
use Rattle.replay_next.proofs.turns.Given as goal

abbrev pub invariant-loop-header : goal.invariant-loop-header
invariant-loop-header l =
    looping.Underway l.header (next_line l.header l.initial.at (lent l.initial.envelope l.initial.levels l.initial.window l.initial.prefix l.initial.squares l.initial.scores l.initial.lag_sums) (hand_of l.events l.far l.near l.ended)) (hand_of l.events l.far l.near l.ended) l.at (lent l.envelope l.levels l.window l.prefix l.squares l.scores l.lag_sums) l.used
    × Inside l.events l.far l.near l.used
    × Kept l.initial.samples l.initial.envelope l.initial.levels l.initial.window l.initial.prefix l.initial.squares l.initial.scores l.initial.lag_sums l.samples l.envelope l.levels l.window l.prefix l.squares l.scores l.lag_sums

abbrev pub decreases-loop-header : goal.decreases-loop-header
decreases-loop-header l =
    to_go l.header l.at.number l.at.stage
