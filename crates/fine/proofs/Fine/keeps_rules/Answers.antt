use native.Mathlib.Omega.{arith}
use Rattle.answers.specs.Pick.{pick}
use Rattle.answers.proofs.Cases.{cases}
use Rattle.fine.specs.State.{keeps_rules}
use Rattle.fine.proofs.Equal.{due_eq}
use Rattle.fine.proofs.Fine.keeps_rules.Goals as goal

pub returns-then-self-lt-LIMIT : goal.returns-then-self-lt-LIMIT
unfolding keeps_rules pick
returns-then-self-lt-LIMIT c =
    let same = due_eq c.args.self.lengths c.args.due c.requires in
    grind (arith, cases, same)

pub returns-else-self-lt-LIMIT : goal.returns-else-self-lt-LIMIT
unfolding keeps_rules pick
returns-else-self-lt-LIMIT c =
    let same = due_eq c.args.self.lengths c.args.due c.requires in
    grind (arith, cases, same)
