-- Every public call: its contract admits one answer, with its tracker.
use Rattle.answers.specs.Once.{Determined}
use Rattle.answers.proofs.Once.{once}
use Rattle.tracker.proofs.Tracker.new.Kinds as new-kinds
use Rattle.tracker.proofs.Tracker.new.Reads as new-reads
use Rattle.tracker.proofs.Tracker.on_cycle.Kinds as on-cycle-kinds
use Rattle.tracker.proofs.Tracker.on_cycle.Reads as on-cycle-reads
use Rattle.tracker.proofs.Tracker.on_discontinuity.Kinds as on-discontinuity-kinds
use Rattle.tracker.proofs.Tracker.on_discontinuity.Reads as on-discontinuity-reads
use Rattle.tracker.proofs.Tracker.jump_cycles.Kinds as jump-cycles-kinds
use Rattle.tracker.proofs.Tracker.jump_cycles.Reads as jump-cycles-reads
use Rattle.tracker.proofs.Tracker.longest_run.Kinds as longest-run-kinds
use Rattle.tracker.proofs.Tracker.longest_run.Reads as longest-run-reads
use Rattle.tracker.proofs.Tracker.suspect.Kinds as suspect-kinds
use Rattle.tracker.proofs.Tracker.suspect.Reads as suspect-reads
use Rattle.tracker.proofs.Tracker.quiescent.Kinds as quiescent-kinds
use Rattle.tracker.proofs.Tracker.quiescent.Reads as quiescent-reads

pub new_once : Determined 0 new-kinds.ps new-kinds.r new-reads.Post
new_once κs a v w x y p q = once p q

pub on_cycle_once : Determined 0 on-cycle-kinds.ps on-cycle-kinds.r on-cycle-reads.Post
on_cycle_once κs a v w x y p q = once p q

pub on_discontinuity_once : Determined 0 on-discontinuity-kinds.ps on-discontinuity-kinds.r on-discontinuity-reads.Post
on_discontinuity_once κs a v w x y p q = once p q

pub jump_cycles_once : Determined 0 jump-cycles-kinds.ps jump-cycles-kinds.r jump-cycles-reads.Post
jump_cycles_once κs a v w x y p q = once p q

pub longest_run_once : Determined 0 longest-run-kinds.ps longest-run-kinds.r longest-run-reads.Post
longest_run_once κs a v w x y p q = once p q

pub suspect_once : Determined 0 suspect-kinds.ps suspect-kinds.r suspect-reads.Post
suspect_once κs a v w x y p q = once p q

pub quiescent_once : Determined 0 quiescent-kinds.ps quiescent-kinds.r quiescent-reads.Post
quiescent_once κs a v w x y p q = once p q
