-- Every call: the contract admits one answer.
use Rattle.answers.specs.Once.{Determined}
use Rattle.answers.proofs.Once.{once}
use Rattle.log_passes.proofs.taking.line_of.Kinds as line-kinds
use Rattle.log_passes.proofs.taking.line_of.Reads as line_reads_lem
use Rattle.log_passes.proofs.judging.judge_next.Kinds as judge-kinds
use Rattle.log_passes.proofs.judging.judge_next.Reads as judge-reads
use Rattle.log_passes.proofs.beside.beside_next.Kinds as beside-kinds
use Rattle.log_passes.proofs.beside.beside_next.Reads as beside-reads
use Rattle.log_passes.proofs.passing.fresh.Kinds as fresh-kinds
use Rattle.log_passes.proofs.passing.fresh.Reads as fresh-reads
use Rattle.log_passes.proofs.passing.pass_next.Kinds as pass-kinds
use Rattle.log_passes.proofs.passing.pass_next.Reads as pass-reads

pub line_of_once : Determined 1 line-kinds.ps line-kinds.r line_reads_lem.Post
line_of_once κs a v w x y p q = once p.0 q.0

pub judge_next_once : Determined 1 judge-kinds.ps judge-kinds.r judge-reads.Post
judge_next_once κs a v w x y p q = once p q

pub beside_next_once : Determined 2 beside-kinds.ps beside-kinds.r beside-reads.Post
beside_next_once κs a v w x y p q = once p q

pub fresh_once : Determined 0 fresh-kinds.ps fresh-kinds.r fresh-reads.Post
fresh_once κs a v w x y p q = once p q

pub pass_next_once : Determined 2 pass-kinds.ps pass-kinds.r pass-reads.Post
pass_next_once κs a v w x y p q = once p q
