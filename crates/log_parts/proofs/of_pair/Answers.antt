-- `log_parts::of_pair` meets its contract: the tests of the code are those of `turn_of`.
use Rattle.answers.proofs.Cases.{cases}
use Rattle.log_parts.specs.Turns.{turn_of}
use Rattle.log_parts.proofs.of_pair.Goals as goal

pub returns-then-m-n : goal.returns-then-m-n
unfolding turn_of
returns-then-m-n c = search cases

pub returns-then-n-m : goal.returns-then-n-m
unfolding turn_of
returns-then-n-m c = search cases

pub returns-then-same : goal.returns-then-same
unfolding turn_of
returns-then-same c = search cases

pub returns : goal.returns
unfolding turn_of
returns c = search cases
