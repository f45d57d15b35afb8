-- `near::near_turn` meets its contract: the stage is what the cut leaves.
use native.Mathlib.Omega.{arith}
use Rattle.scan_score.specs.Observing.{lent}
use Rattle.recording.specs.Samples.{samples_in}
use Rattle.replay_stream.specs.Stream.{near_cut, near_turn}
use Rattle.replay_stream.proofs.Fronts.{samples_length}
use Rattle.replay_turn.proofs.Leaving.{cut_within, near_turned}
use Rattle.replay_turn.proofs.near.near_turn.Goals as goal

pub after_near-requires : goal.after_near-requires
after_near-requires c =
    let a = c.args in
    (omega (arith, cut_within _ _ _ _ _ _ _ c.near_cut-cut.ensures, samples_length a.form a.near.now a.left), c.requires.few)

pub returns : goal.returns
unfolding near_turn
returns c =
    let a = c.args in
    rw c.after_near.ensures
    (near_turned a.form a.number a.event a.left c.near_cut-cut.result _
    (near_cut a.event a.session (lent a.envelope.now a.levels.now a.window.now a.prefix.now a.squares.now a.scores.now a.lag_sums.now) (samples_in a.form a.near.now a.left) a.index)
    c.near_cut-cut.ensures)
