-- `starting::new_session` meets its contract.
use Rattle.replay.specs.Log.{new_session}
use Rattle.replay.proofs.Beginnings.{own_tracker}
use Rattle.replay.proofs.starting.new_session.Goals as goal

pub returns : goal.returns
unfolding new_session
returns c =
    rw (c.new_scan-scan.ensures, c.new-made.ensures, own_tracker c.args.rate c.args.ceiling c.requires)
