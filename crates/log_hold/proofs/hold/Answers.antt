-- `log_hold::hold` meets its contract.
use mathlib.Core.Path.{sym, ap, ◌∙◌}
use Rattle.log_hold.specs.Held.{held}
use Rattle.log_hold.proofs.hold.Goals as goal

pub returns-in-Some : goal.returns-in-Some
returns-in-Some c = c.hold_line.ensures ∙ ap (λ d. held d c.args.bytes.now c.args.ended) (sym c.in-Some.is)

pub returns-in-None : goal.returns-in-None
returns-in-None c = c.hold_end.ensures ∙ ap (λ d. held d c.args.bytes.now c.args.ended) (sym c.in-None.is)
