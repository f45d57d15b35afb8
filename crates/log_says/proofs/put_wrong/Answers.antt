-- `log_says::put_wrong` meets its contract.
use native.Mathlib.Omega.{arith}
use Rattle.log_lines.proofs.Laws.{then}
use Rattle.log_says.proofs.Lengths.{place_short, stands_short}
use Rattle.log_says.specs.Calls.{side_at}
use Rattle.log_says.proofs.put_wrong.Goals as goal

pub put_stands-b-requires : goal.put_stands-b-requires
put_stands-b-requires c = omega (arith, c.put_place-a.ensures.place, c.put_place-a.auto.out, place_short c.args.line)

pub put_should-requires : goal.put_should-requires
put_should-requires c = omega (arith, c.put_stands-b.ensures.place, c.put_stands-b.auto.out, c.put_place-a.ensures.place, c.put_place-a.auto.out, place_short c.args.line, stands_short (side_at c.args.hand.now c.args.ended))

pub returns : goal.returns
returns c = then (then c.put_place-a.ensures c.put_stands-b.ensures) c.put_should.ensures
