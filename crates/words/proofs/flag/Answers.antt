-- `words::flag` meets its contract.
use Rattle.std.proofs.Common.{◌∙◌}
use Rattle.words.proofs.Back.{flagged}
use Rattle.words.proofs.flag.Goals as goal

pub returns : goal.returns
returns c = c.from.ensures ∙ flagged c.args.b
