-- `scan_words::loading::level_pattern` meets its contract.
use Rattle.scan_words.specs.Answers.{level_pattern}
use Rattle.answers.proofs.Cases.{cases}
use Rattle.scan_words.proofs.loading.level_pattern.Goals as goal

pub returns-then-state-eq0 : goal.returns-then-state-eq0
unfolding level_pattern
returns-then-state-eq0 c = search cases

pub returns : goal.returns
unfolding level_pattern
returns c = search cases
