-- `log_says::write_verdict` meets its contract.
use Rattle.log_says.proofs.Lengths.{told_all, told_none}
use Rattle.log_says.specs.Calls.{room, said_text, said, said_out}
use Rattle.log_says.proofs.write_verdict.Goals as goal

pub returns-then-out-lt256 : goal.returns-then-out-lt256
unfolding said said_out
returns-then-out-lt256 c = told_none room c.args.out.now (said_text c.args.line c.args.verdict c.args.hand.now c.args.ended) c.if-out-lt256.true

pub returns : goal.returns
unfolding said said_out
returns c = told_all room _ _ _ _ c.if-out-lt256.false c.put_verdict-n.ensures
