-- Every public call: its contract admits one answer.
use Rattle.answers.specs.Once.{Determined}
use Rattle.answers.proofs.Once.{once}
use Rattle.recording_convert.proofs.judge.Kinds as judge-kinds
use Rattle.recording_convert.proofs.judge.Reads as judge-reads

pub judge_once : Determined 1 judge-kinds.ps judge-kinds.r judge-reads.Post
judge_once κs a v w x y p q = once p q
