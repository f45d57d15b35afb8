-- Every call of the tracker: its contract admits one answer, and one list in each place that it is lent.
use mathlib.Core.Path.{◌≡◌}
use contract.Lifetimes.{Lfts}
use denote.Triple.Clauses.{AtExit}
use borrow.Fn.Kinds.{Dens, res_t, ended_of}
use Rattle.answers.specs.Once.{Determined}
use Rattle.answers.proofs.Once.{once}
use Rattle.tracker_face.proofs.tmv_tracker_words.Kinds as words-kinds
use Rattle.tracker_face.proofs.tmv_tracker_words.Reads as words-reads
use Rattle.tracker_face.proofs.tmv_tracker_new.Kinds as new-kinds
use Rattle.tracker_face.proofs.tmv_tracker_new.Reads as new-reads
use Rattle.tracker_face.proofs.tmv_tracker_on_cycle.Kinds as on-cycle-kinds
use Rattle.tracker_face.proofs.tmv_tracker_on_cycle.Reads as on-cycle-reads
use Rattle.tracker_face.proofs.tmv_tracker_on_discontinuity.Kinds as on-discontinuity-kinds
use Rattle.tracker_face.proofs.tmv_tracker_on_discontinuity.Reads as on-discontinuity-reads
use Rattle.tracker_face.proofs.tmv_tracker_jump_cycles.Kinds as jump-cycles-kinds
use Rattle.tracker_face.proofs.tmv_tracker_jump_cycles.Reads as jump-cycles-reads
use Rattle.tracker_face.proofs.tmv_tracker_longest_run.Kinds as longest-run-kinds
use Rattle.tracker_face.proofs.tmv_tracker_longest_run.Reads as longest-run-reads
use Rattle.tracker_face.proofs.tmv_tracker_suspect.Kinds as suspect-kinds
use Rattle.tracker_face.proofs.tmv_tracker_suspect.Reads as suspect-reads
use Rattle.tracker_face.proofs.tmv_tracker_quiescent.Kinds as quiescent-kinds
use Rattle.tracker_face.proofs.tmv_tracker_quiescent.Reads as quiescent-reads

pub words_once : Determined 0 words-kinds.ps words-kinds.r words-reads.Post
words_once κs a v w x y p q = once p q

pub new_once : Determined 1 new-kinds.ps new-kinds.r new-reads.Post
new_once κs a v w x y p q = once p.0 q.0

pub new_leaves_once : (κs : Lfts 1) (a : Dens κs new-kinds.ps) (v w : (res_t new-kinds.r κs).Denot) (x y : AtExit (ended_of 1 new-kinds.ps new-kinds.r) κs)
    → new-reads.Post κs a v x → new-reads.Post κs a w y
    → x.0.now ≡ y.0.now
new_leaves_once κs a v w x y p q = once p.1 q.1

pub on_cycle_once : Determined 2 on-cycle-kinds.ps on-cycle-kinds.r on-cycle-reads.Post
on_cycle_once κs a v w x y p q = once p.0 q.0

pub on_cycle_leaves_once : (κs : Lfts 2) (a : Dens κs on-cycle-kinds.ps) (v w : (res_t on-cycle-kinds.r κs).Denot) (x y : AtExit (ended_of 2 on-cycle-kinds.ps on-cycle-kinds.r) κs)
    → on-cycle-reads.Post κs a v x → on-cycle-reads.Post κs a w y
    → (x.0.now ≡ y.0.now) ×
    (x.1.1.1.1.0.now ≡ y.1.1.1.1.0.now)
on_cycle_leaves_once κs a v w x y p q = (
  once p.1.0 q.1.0,
  once p.1.1 q.1.1,
)

pub on_discontinuity_once : Determined 1 on-discontinuity-kinds.ps on-discontinuity-kinds.r on-discontinuity-reads.Post
on_discontinuity_once κs a v w x y p q = once p.0 q.0

pub on_discontinuity_leaves_once : (κs : Lfts 1) (a : Dens κs on-discontinuity-kinds.ps) (v w : (res_t on-discontinuity-kinds.r κs).Denot) (x y : AtExit (ended_of 1 on-discontinuity-kinds.ps on-discontinuity-kinds.r) κs)
    → on-discontinuity-reads.Post κs a v x → on-discontinuity-reads.Post κs a w y
    → x.0.now ≡ y.0.now
on_discontinuity_leaves_once κs a v w x y p q = once p.1 q.1

pub jump_cycles_once : Determined 2 jump-cycles-kinds.ps jump-cycles-kinds.r jump-cycles-reads.Post
jump_cycles_once κs a v w x y p q = once p.0 q.0

pub jump_cycles_leaves_once : (κs : Lfts 2) (a : Dens κs jump-cycles-kinds.ps) (v w : (res_t jump-cycles-kinds.r κs).Denot) (x y : AtExit (ended_of 2 jump-cycles-kinds.ps jump-cycles-kinds.r) κs)
    → jump-cycles-reads.Post κs a v x → jump-cycles-reads.Post κs a w y
    → x.1.0.now ≡ y.1.0.now
jump_cycles_leaves_once κs a v w x y p q = once p.1 q.1

pub longest_run_once : Determined 2 longest-run-kinds.ps longest-run-kinds.r longest-run-reads.Post
longest_run_once κs a v w x y p q = once p.0 q.0

pub longest_run_leaves_once : (κs : Lfts 2) (a : Dens κs longest-run-kinds.ps) (v w : (res_t longest-run-kinds.r κs).Denot) (x y : AtExit (ended_of 2 longest-run-kinds.ps longest-run-kinds.r) κs)
    → longest-run-reads.Post κs a v x → longest-run-reads.Post κs a w y
    → x.1.0.now ≡ y.1.0.now
longest_run_leaves_once κs a v w x y p q = once p.1 q.1

pub suspect_once : Determined 1 suspect-kinds.ps suspect-kinds.r suspect-reads.Post
suspect_once κs a v w x y p q = once p q

pub quiescent_once : Determined 1 quiescent-kinds.ps quiescent-kinds.r quiescent-reads.Post
quiescent_once κs a v w x y p q = once p q
