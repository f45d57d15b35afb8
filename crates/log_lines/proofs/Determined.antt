-- Both calls: the contract admits one answer, and one buffer.
use Rattle.std.proofs.Common.{◌≡◌, ℕ, List, Option, Some, None, sym, refl}
use contract.Lifetimes.{Lfts}
use denote.Triple.Clauses.{AtExit}
use borrow.Fn.Kinds.{Dens, res_t, ended_of}
use Rattle.answers.specs.Once.{Determined}
use Rattle.answers.proofs.Once.{once}
use Rattle.log_lines.specs.Calls.{Reads}
use Rattle.log_lines.specs.declared.Line.{Line}
use Rattle.log_lines.proofs.write_line.Kinds as write-kinds
use Rattle.log_lines.proofs.write_line.Reads as write-reads
use Rattle.log_lines.proofs.read_line.Kinds as read-kinds
use Rattle.log_lines.proofs.read_line.Reads as read-reads

pub write_line_once : Determined 1 write-kinds.ps write-kinds.r write-reads.Post
write_line_once κs a v w x y p q = once p.0 q.0

pub write_line_leaves_once : (κs : Lfts 1) (a : Dens κs write-kinds.ps) (v w : (res_t write-kinds.r κs).Denot) (x y : AtExit (ended_of 1 write-kinds.ps write-kinds.r) κs)
    → write-reads.Post κs a v x → write-reads.Post κs a w y → x.1.0.now ≡ y.1.0.now
write_line_leaves_once κs a v w x y p q = once p.1 q.1

read_one : (text : List ℕ) (v w : Option Line) → Reads text v → Reads text w → v ≡ w
read_one text (Some l) w p q = sym (q.whole l (p.sound l refl))
read_one text None (Some m) p q = p.whole m (q.sound m refl)
read_one text None None p q = refl

pub read_line_once : Determined 1 read-kinds.ps read-kinds.r read-reads.Post
read_line_once κs a v w x y p q = read_one _ v w p q
