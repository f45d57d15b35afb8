-- Both calls: the contract admits one answer.
use Rattle.answers.specs.Once.{Determined}
use Rattle.answers.proofs.Once.{once}
use Rattle.log_parts.proofs.judge.Kinds as judge-kinds
use Rattle.log_parts.proofs.judge.Reads as judge-reads
use Rattle.log_parts.proofs.turn_of.Kinds as turn-kinds
use Rattle.log_parts.proofs.turn_of.Reads as turn-reads

pub judge_once : Determined 1 judge-kinds.ps judge-kinds.r judge-reads.Post
judge_once κs a v w x y p q = once p q

pub turn_of_once : Determined 2 turn-kinds.ps turn-kinds.r turn-reads.Post
turn_of_once κs a v w x y p q = once p q
