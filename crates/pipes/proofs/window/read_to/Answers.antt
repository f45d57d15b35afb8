use Rattle.std.proofs.Common.{rules}
use Rattle.pipes.proofs.Growing.{grows}
use Rattle.pipes.proofs.window.read_to.Goals as goal

-- src/window.rt: the bytes that came stand behind those at hand
pub returns-in-Ok : goal.returns-in-Ok
returns-in-Ok c = grows c.args.w _ c.args.room.now c.read_between.new.room c.in-Ok.count
    c.requires.2 (search rules) (search rules) (search rules) (search rules) (search rules) (search rules) c.read_between.ensures.1
