-- Every public call: its contract admits one answer.
use Rattle.answers.specs.Once.{Determined}
use Rattle.answers.proofs.Once.{once}
use Rattle.recording_shorts.proofs.value.Kinds as value-kinds
use Rattle.recording_shorts.proofs.value.Reads as value-reads
use Rattle.recording_shorts.proofs.number.Kinds as number-kinds
use Rattle.recording_shorts.proofs.number.Reads as number_reads

pub value_once : Determined 0 value-kinds.ps value-kinds.r value-reads.Post
value_once κs a v w x y p q = once p q

pub number_once : Determined 0 number-kinds.ps number-kinds.r number_reads.Post
number_once κs a v w x y p q = once p q
