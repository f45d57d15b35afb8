-- `log_passes::judging::judge_text` meets its contract.
use Rattle.log_passes.proofs.judging.judge_text.Goals as goal

pub returns : goal.returns
returns c = rw (← c.judge-judged.ensures) c.judged_as.ensures
