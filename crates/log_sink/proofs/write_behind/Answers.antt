-- `log_sink::write_behind` meets its contract: the part from a place on is the rest of the room.
use mathlib.Core.Path.{ap, ◌∙◌}
use mathlib.Core.List.{◌++◌}
use lib.ListN.{take}
use Rattle.log_lines.specs.Calls.{written, written_out}
use Rattle.log_sink.proofs.Joining.{part_whole, put_whole}
use Rattle.log_sink.proofs.write_behind.Goals as goal

pub returns : goal.returns
returns c =
    let w = c.write_line in
    let whole = part_whole c.args.held c.args.room.now in (
      w.ensures.0 ∙ ap (written c.args.line) whole,
      put_whole c.args.held c.args.room.now w.new.out c.requires ∙ ap (λ z. take c.args.held c.args.room.now ++ z) (w.ensures.1 ∙ ap (written_out c.args.line) whole),
    )
