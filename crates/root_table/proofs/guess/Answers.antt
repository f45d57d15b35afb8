-- `root_table::guess` meets its contract: the entry that serves m has a guess near its root.
use native.Mathlib.Omega.{arith}
use Rattle.root_table.proofs.Entries.{entry_near}
use Rattle.root_table.proofs.guess.Goals as goal

pub overflow_mul-result : goal.overflow_mul-result
overflow_mul-result c = omega (arith, c.wide.ensures.1)

pub returns : goal.returns
returns c = let start = c.before.before.before.before in
    let place = c.place-i in
    rw c.wide.ensures.0 (entry_near start.args.guesses.now place.result start.args.m start.requires.2 place.ensures.0 place.ensures.1)
