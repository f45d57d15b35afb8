-- Every report of the profile: its contract admits one answer, and one list of values.
use mathlib.Core.Path.{◌≡◌}
use contract.Lifetimes.{Lfts}
use denote.Triple.Clauses.{AtExit}
use borrow.Fn.Kinds.{Dens, res_t, ended_of}
use Rattle.answers.specs.Once.{Determined}
use Rattle.answers.proofs.Once.{once}
use Rattle.scan_panel_reports_face.proofs.tmv_panel_bin_samples.Kinds as bin-samples-kinds
use Rattle.scan_panel_reports_face.proofs.tmv_panel_bin_samples.Reads as bin-samples-reads
use Rattle.scan_panel_reports_face.proofs.tmv_panel_ceiling_samples.Kinds as ceiling-samples-kinds
use Rattle.scan_panel_reports_face.proofs.tmv_panel_ceiling_samples.Reads as ceiling-samples-reads
use Rattle.scan_panel_reports_face.proofs.tmv_panel_frames.Kinds as frames-kinds
use Rattle.scan_panel_reports_face.proofs.tmv_panel_frames.Reads as frames-reads
use Rattle.scan_panel_reports_face.proofs.tmv_panel_correlation.Kinds as correlation-kinds
use Rattle.scan_panel_reports_face.proofs.tmv_panel_correlation.Reads as correlation-reads
use Rattle.scan_panel_reports_face.proofs.tmv_panel_region.Kinds as region-kinds
use Rattle.scan_panel_reports_face.proofs.tmv_panel_region.Reads as region-reads
use Rattle.scan_panel_reports_face.proofs.tmv_panel_beyond_ceiling.Kinds as beyond-ceiling-kinds
use Rattle.scan_panel_reports_face.proofs.tmv_panel_beyond_ceiling.Reads as beyond-ceiling-reads
use Rattle.scan_panel_reports_face.proofs.tmv_panel_finished.Kinds as finished-kinds
use Rattle.scan_panel_reports_face.proofs.tmv_panel_finished.Reads as finished-reads
use Rattle.scan_panel_reports_face.proofs.tmv_panel_exhausted.Kinds as exhausted-kinds
use Rattle.scan_panel_reports_face.proofs.tmv_panel_exhausted.Reads as exhausted-reads

pub panel_bin_samples_once : Determined 2 bin-samples-kinds.ps bin-samples-kinds.r bin-samples-reads.Post
panel_bin_samples_once κs a v w x y p q = once p.0 q.0

pub panel_bin_samples_leaves_once : (κs : Lfts 2) (a : Dens κs bin-samples-kinds.ps) (v w : (res_t bin-samples-kinds.r κs).Denot) (x y : AtExit (ended_of 2 bin-samples-kinds.ps bin-samples-kinds.r) κs)
    → bin-samples-reads.Post κs a v x → bin-samples-reads.Post κs a w y
    → x.1.0.now ≡ y.1.0.now
panel_bin_samples_leaves_once κs a v w x y p q = once p.1 q.1

pub panel_ceiling_samples_once : Determined 2 ceiling-samples-kinds.ps ceiling-samples-kinds.r ceiling-samples-reads.Post
panel_ceiling_samples_once κs a v w x y p q = once p.0 q.0

pub panel_ceiling_samples_leaves_once : (κs : Lfts 2) (a : Dens κs ceiling-samples-kinds.ps) (v w : (res_t ceiling-samples-kinds.r κs).Denot) (x y : AtExit (ended_of 2 ceiling-samples-kinds.ps ceiling-samples-kinds.r) κs)
    → ceiling-samples-reads.Post κs a v x → ceiling-samples-reads.Post κs a w y
    → x.1.0.now ≡ y.1.0.now
panel_ceiling_samples_leaves_once κs a v w x y p q = once p.1 q.1

pub panel_frames_once : Determined 2 frames-kinds.ps frames-kinds.r frames-reads.Post
panel_frames_once κs a v w x y p q = once p.0 q.0

pub panel_frames_leaves_once : (κs : Lfts 2) (a : Dens κs frames-kinds.ps) (v w : (res_t frames-kinds.r κs).Denot) (x y : AtExit (ended_of 2 frames-kinds.ps frames-kinds.r) κs)
    → frames-reads.Post κs a v x → frames-reads.Post κs a w y
    → x.1.0.now ≡ y.1.0.now
panel_frames_leaves_once κs a v w x y p q = once p.1 q.1

pub panel_correlation_once : Determined 2 correlation-kinds.ps correlation-kinds.r correlation-reads.Post
panel_correlation_once κs a v w x y p q = once p.0 q.0

pub panel_correlation_leaves_once : (κs : Lfts 2) (a : Dens κs correlation-kinds.ps) (v w : (res_t correlation-kinds.r κs).Denot) (x y : AtExit (ended_of 2 correlation-kinds.ps correlation-kinds.r) κs)
    → correlation-reads.Post κs a v x → correlation-reads.Post κs a w y
    → x.1.0.now ≡ y.1.0.now
panel_correlation_leaves_once κs a v w x y p q = once p.1 q.1

pub panel_region_once : Determined 2 region-kinds.ps region-kinds.r region-reads.Post
panel_region_once κs a v w x y p q = once p.0 q.0

pub panel_region_leaves_once : (κs : Lfts 2) (a : Dens κs region-kinds.ps) (v w : (res_t region-kinds.r κs).Denot) (x y : AtExit (ended_of 2 region-kinds.ps region-kinds.r) κs)
    → region-reads.Post κs a v x → region-reads.Post κs a w y
    → x.1.0.now ≡ y.1.0.now
panel_region_leaves_once κs a v w x y p q = once p.1 q.1

pub panel_beyond_ceiling_once : Determined 1 beyond-ceiling-kinds.ps beyond-ceiling-kinds.r beyond-ceiling-reads.Post
panel_beyond_ceiling_once κs a v w x y p q = once p q

pub panel_finished_once : Determined 1 finished-kinds.ps finished-kinds.r finished-reads.Post
panel_finished_once κs a v w x y p q = once p q

pub panel_exhausted_once : Determined 1 exhausted-kinds.ps exhausted-kinds.r exhausted-reads.Post
panel_exhausted_once κs a v w x y p q = once p q
