-- `log_sink::put` meets its contract: the line stands behind what was held, or it found no room.
use native.Mathlib.Omega.{arith}
use mathlib.Core.Path.{sym, ap, ◌∙◌}
use Rattle.answers.specs.Pick.{either}
use Rattle.log_sink.proofs.Joining.{joins_line, joins_lost}
use Rattle.log_sink.proofs.put.Goals as goal

pub returns-in-None : goal.returns-in-None
returns-in-None c =
    let wrote = c.write_behind in
    joins_lost c.args.line c.args.text c.lost.result c.args.room.now wrote.new.room (sym c.in-None.is ∙ wrote.ensures.0) (omega (arith, c.lost.ensures.0, c.requires, wrote.auto.room)) c.lost.ensures.1

pub returns-in-Some : goal.returns-in-Some
returns-in-Some c =
    let wrote = c.write_behind in
    let end = c.ended in
    joins_line c.args.line c.args.text end.result c.args.room.now wrote.new.room end.new.room _ c.requires (sym c.in-Some.is ∙ wrote.ensures.0) wrote.ensures.1 wrote.auto.room end.ensures.0 end.ensures.1
    (λ g. end.ensures.2 g ∙ ap (λ b. either c.args.text.amiss b) c.complains.ensures) end.ensures.3
