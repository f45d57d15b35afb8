-- `parts_walks::judge::turn` meets its contract.
use Rattle.parts_walks.proofs.Judging.{stays_within}
use Rattle.parts_walks.proofs.judge.turn.Goals as goal

pub returns : goal.returns
returns c =
    let heed = c.heed-window in
    let ask = c.ask-look in
    (stays_within c.args.stand.window c.args.room.now heed.result heed.new.room ask.result.look c.requires.0 heed.ensures, record { said = ask.ensures; done = heed.ensures })
