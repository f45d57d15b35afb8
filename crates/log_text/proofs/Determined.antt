-- Both calls: the contract admits one answer.
use Rattle.answers.specs.Once.{Determined}
use Rattle.answers.proofs.Once.{once}
use Rattle.log_text.proofs.same_text.Kinds as same-kinds
use Rattle.log_text.proofs.same_text.Reads as same_Reads
use Rattle.log_text.proofs.cut.Kinds as cut-kinds
use Rattle.log_text.proofs.cut.Reads as cut-reads

pub same_text_once : Determined 2 same-kinds.ps same-kinds.r same_Reads.Post
same_text_once κs a v w x y p q = once p q

pub cut_once : Determined 1 cut-kinds.ps cut-kinds.r cut-reads.Post
cut_once κs a v w x y p q = once p q
