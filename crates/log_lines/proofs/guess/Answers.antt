-- `log_lines::guess` meets its contract: each number that `match` names is the sum of the words that the definition names.
use Rattle.std.proofs.Common.{ne_eqb, rules}
use Rattle.answers.specs.Pick.{pick}
use Rattle.log_lines.specs.Steps.{guessed}
use Rattle.log_lines.proofs.guess.Goals as goal

pub returns-in-1940 : goal.returns-in-1940
unfolding guessed pick
returns-in-1940 c = rw (c.in-1940.is, c.low32-in-1940.ensures, c.low32.ensures)

pub returns-in-1558 : goal.returns-in-1558
unfolding guessed pick
returns-in-1558 c = rw c.in-1558.is

pub returns-in-1086 : goal.returns-in-1086
unfolding guessed pick
returns-in-1086 c = rw c.in-1086.is

pub returns-in-1139 : goal.returns-in-1139
unfolding guessed pick
returns-in-1139 c = rw c.in-1139.is

pub returns-in-1010 : goal.returns-in-1010
unfolding guessed pick
returns-in-1010 c = rw c.in-1010.is

pub returns-in-1232 : goal.returns-in-1232
unfolding guessed pick
returns-in-1232 c = rw (c.in-1232.is, c.low32-in-1232.ensures)

pub returns-in-1011 : goal.returns-in-1011
unfolding guessed pick
returns-in-1011 c = rw c.in-1011.is

pub returns-in-1318 : goal.returns-in-1318
unfolding guessed pick
returns-in-1318 c = rw c.in-1318.is

pub returns-in-1331 : goal.returns-in-1331
unfolding guessed pick
returns-in-1331 c = rw c.in-1331.is

pub returns-in-1295 : goal.returns-in-1295
unfolding guessed pick
returns-in-1295 c = rw c.in-1295.is

pub returns-in-1015 : goal.returns-in-1015
unfolding guessed pick
returns-in-1015 c = rw c.in-1015.is

pub returns-in-1063 : goal.returns-in-1063
unfolding guessed pick
returns-in-1063 c = rw c.in-1063.is

pub returns-in-1990 : goal.returns-in-1990
unfolding guessed pick
returns-in-1990 c = rw c.in-1990.is

pub returns-in-2035 : goal.returns-in-2035
unfolding guessed pick
returns-in-2035 c = rw c.in-2035.is

pub returns-in-2029 : goal.returns-in-2029
unfolding guessed pick
returns-in-2029 c = rw c.in-2029.is

pub returns-in-2007 : goal.returns-in-2007
unfolding guessed pick
returns-in-2007 c = rw c.in-2007.is

pub returns-in-1392 : goal.returns-in-1392
unfolding guessed pick
returns-in-1392 c = rw (c.in-1392.is, c.low8.ensures, c.low32-in-1392.ensures)

pub returns-in-1720 : goal.returns-in-1720
unfolding guessed pick
returns-in-1720 c = rw c.in-1720.is

pub returns-in-944 : goal.returns-in-944
unfolding guessed pick
returns-in-944 c = rw c.in-944.is

pub returns-in-905 : goal.returns-in-905
unfolding guessed pick
returns-in-905 c = rw (c.in-905.is, c.low32-in-905.ensures)

pub returns-in_default : goal.returns-in_default
unfolding guessed pick
returns-in_default c = simp (
  ne_eqb c.args.s.shape 1940 (search rules),
  ne_eqb c.args.s.shape 1558 (search rules),
  ne_eqb c.args.s.shape 1086 (search rules),
  ne_eqb c.args.s.shape 1139 (search rules),
  ne_eqb c.args.s.shape 1010 (search rules),
  ne_eqb c.args.s.shape 1232 (search rules),
  ne_eqb c.args.s.shape 1011 (search rules),
  ne_eqb c.args.s.shape 1318 (search rules),
  ne_eqb c.args.s.shape 1331 (search rules),
  ne_eqb c.args.s.shape 1295 (search rules),
  ne_eqb c.args.s.shape 1015 (search rules),
  ne_eqb c.args.s.shape 1063 (search rules),
  ne_eqb c.args.s.shape 1990 (search rules),
  ne_eqb c.args.s.shape 2035 (search rules),
  ne_eqb c.args.s.shape 2029 (search rules),
  ne_eqb c.args.s.shape 2007 (search rules),
  ne_eqb c.args.s.shape 1392 (search rules),
  ne_eqb c.args.s.shape 1720 (search rules),
  ne_eqb c.args.s.shape 944 (search rules),
  ne_eqb c.args.s.shape 905 (search rules),
)
