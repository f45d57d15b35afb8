-- `log_says::put_place` meets its contract.
use native.Mathlib.Omega.{arith}
use Rattle.log_lines.proofs.Laws.{then, decimal_short}
use Rattle.log_says.specs.Says.{place_text}
use Rattle.log_says.proofs.put_place.Goals as goal

pub put-requires : goal.put-requires
put-requires c = omega (arith, c.put_number-next.ensures.place, c.put_number-next.auto.out, decimal_short c.args.line)

pub returns : goal.returns
unfolding place_text
returns c = then c.put_number-next.ensures c.put.ensures
