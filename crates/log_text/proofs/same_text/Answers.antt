-- `log_text::same_text` meets its contract: the kit's test passes exactly equal texts.
use Rattle.log_text.proofs.Text.{same_is}
use Rattle.log_text.proofs.same_text.Goals as goal

pub returns : goal.returns
returns c = same_is c.same.result c.args.a.now c.args.b.now c.same.ensures.0 c.same.ensures.1
