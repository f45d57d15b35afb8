-- `log_text::first_newline` meets its contract.
use Rattle.std.proofs.Common.{◌∙◌}
use Rattle.log_text.proofs.Newlines.{newline_found}
use Rattle.log_text.proofs.first_newline.Goals as goal

pub returns : goal.returns
returns c = c.unwrap_or.ensures ∙ rw c.newline_in.ensures (newline_found c.args.bytes.now)
