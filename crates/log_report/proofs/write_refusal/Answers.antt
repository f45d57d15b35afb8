-- `log_report::write_refusal` meets its contract.
use Prim.Native.Nat.{◌+◌}
use Rattle.log_report.specs.Texts.{strange_text}
use lib.ListN.{length}
use native.Mathlib.Omega.{arith}
use Rattle.log_report.proofs.Lengths.{told_all, told_none}
use Rattle.log_report.specs.Calls.{refused_as, refused_out}
use Rattle.log_report.proofs.write_refusal.Goals as goal

pub returns-then-out-lt140 : goal.returns-then-out-lt140
unfolding refused_as refused_out
returns-then-out-lt140 c = told_none (length c.args.name.now + 140) c.args.out.now (strange_text c.args.name.now c.args.place c.args.text.now) (omega arith)

pub returns-then-out-name : goal.returns-then-out-name
unfolding refused_as refused_out
returns-then-out-name c = told_none (length c.args.name.now + 140) c.args.out.now (strange_text c.args.name.now c.args.place c.args.text.now) (omega arith)

pub returns : goal.returns
unfolding refused_as refused_out
returns c = told_all (length c.args.name.now + 140) _ _ _ _ (omega arith) c.put_strange-n.ensures
