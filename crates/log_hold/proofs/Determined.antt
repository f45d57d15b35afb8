-- The contract of `hold` admits one answer.
use Rattle.answers.specs.Once.{Determined}
use Rattle.answers.proofs.Once.{once}
use Rattle.log_hold.proofs.hold.Kinds as hold-kinds
use Rattle.log_hold.proofs.hold.Reads as hold-reads

pub hold_once : Determined 1 hold-kinds.ps hold-kinds.r hold-reads.Post
hold_once κs a v w x y p q = once p q
