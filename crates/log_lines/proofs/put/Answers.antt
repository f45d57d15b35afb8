-- `log_lines::put` meets its contract: the part that is overwritten has the text's length.
use Rattle.std.proofs.Common.{refl, arith}
use Rattle.log_lines.proofs.Laws.{put_part}
use Rattle.log_lines.proofs.put.Goals as goal

pub returns : goal.returns
returns c = record {
  bytes = put_part c.args.out.now c.args.at _ _ _ c.requires (omega arith) c.copy_from_slice.ensures.after;
  place = refl;
}
