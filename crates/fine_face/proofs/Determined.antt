-- Every call of the fine stage: its contract admits one answer, and one list in each place that it is lent.
use mathlib.Core.Path.{◌≡◌}
use contract.Lifetimes.{Lfts}
use denote.Triple.Clauses.{AtExit}
use borrow.Fn.Kinds.{Dens, res_t, ended_of}
use Rattle.answers.specs.Once.{Determined}
use Rattle.answers.proofs.Once.{once}
use Rattle.fine_face.proofs.tmv_fine_words.Kinds as words-kinds
use Rattle.fine_face.proofs.tmv_fine_words.Reads as words-reads
use Rattle.fine_face.proofs.tmv_fine_frame_len.Kinds as frame-len-kinds
use Rattle.fine_face.proofs.tmv_fine_frame_len.Reads as frame-len-reads
use Rattle.fine_face.proofs.tmv_fine_window_len.Kinds as window-len-kinds
use Rattle.fine_face.proofs.tmv_fine_window_len.Reads as window-len-reads
use Rattle.fine_face.proofs.tmv_fine_correlation_len.Kinds as correlation-len-kinds
use Rattle.fine_face.proofs.tmv_fine_correlation_len.Reads as correlation-len-reads
use Rattle.fine_face.proofs.tmv_fine_new.Kinds as new-kinds
use Rattle.fine_face.proofs.tmv_fine_new.Reads as new-reads
use Rattle.fine_face.proofs.tmv_fine_restart.Kinds as restart-kinds
use Rattle.fine_face.proofs.tmv_fine_restart.Reads as restart-reads
use Rattle.fine_face.proofs.tmv_fine_relocate.Kinds as relocate-kinds
use Rattle.fine_face.proofs.tmv_fine_relocate.Reads as relocate-reads
use Rattle.fine_face.proofs.tmv_fine_reset.Kinds as reset-kinds
use Rattle.fine_face.proofs.tmv_fine_reset.Reads as reset-reads
use Rattle.fine_face.proofs.tmv_fine_push_near.Kinds as push-near-kinds
use Rattle.fine_face.proofs.tmv_fine_push_near.Reads as push-near-reads
use Rattle.fine_face.proofs.tmv_fine_gate.Kinds as gate-kinds
use Rattle.fine_face.proofs.tmv_fine_gate.Reads as gate-reads
use Rattle.fine_face.proofs.tmv_fine_rescan.Kinds as rescan-kinds
use Rattle.fine_face.proofs.tmv_fine_rescan.Reads as rescan-reads
use Rattle.fine_face.proofs.tmv_fine_peak.Kinds as peak-kinds
use Rattle.fine_face.proofs.tmv_fine_peak.Reads as peak-reads
use Rattle.fine_face.proofs.tmv_fine_state_frame_len.Kinds as state-frame-len-kinds
use Rattle.fine_face.proofs.tmv_fine_state_frame_len.Reads as state-frame-len-reads
use Rattle.fine_face.proofs.tmv_fine_state_window_len.Kinds as state-window-len-kinds
use Rattle.fine_face.proofs.tmv_fine_state_window_len.Reads as state-window-len-reads
use Rattle.fine_face.proofs.tmv_fine_max_delay.Kinds as max-delay-kinds
use Rattle.fine_face.proofs.tmv_fine_max_delay.Reads as max-delay-reads
use Rattle.fine_face.proofs.tmv_fine_window_back_off.Kinds as window-back-off-kinds
use Rattle.fine_face.proofs.tmv_fine_window_back_off.Reads as window-back-off-reads
use Rattle.fine_face.proofs.tmv_fine_search_range.Kinds as search-range-kinds
use Rattle.fine_face.proofs.tmv_fine_search_range.Reads as search-range-reads
use Rattle.fine_face.proofs.tmv_fine_frames.Kinds as frames-kinds
use Rattle.fine_face.proofs.tmv_fine_frames.Reads as frames-reads
use Rattle.fine_face.proofs.tmv_fine_skipped.Kinds as skipped-kinds
use Rattle.fine_face.proofs.tmv_fine_skipped.Reads as skipped-reads
use Rattle.fine_face.proofs.tmv_fine_last_scan_ratio.Kinds as last-scan-ratio-kinds
use Rattle.fine_face.proofs.tmv_fine_last_scan_ratio.Reads as last-scan-ratio-reads
use Rattle.fine_face.proofs.tmv_fine_last_scan_peak_at.Kinds as last-scan-peak-at-kinds
use Rattle.fine_face.proofs.tmv_fine_last_scan_peak_at.Reads as last-scan-peak-at-reads
use Rattle.fine_face.proofs.tmv_fine_last_scan_origin.Kinds as last-scan-origin-kinds
use Rattle.fine_face.proofs.tmv_fine_last_scan_origin.Reads as last-scan-origin-reads
use Rattle.fine_face.proofs.tmv_fine_scans.Kinds as scans-kinds
use Rattle.fine_face.proofs.tmv_fine_scans.Reads as scans-reads

pub words_once : Determined 0 words-kinds.ps words-kinds.r words-reads.Post
words_once κs a v w x y p q = once p q

pub frame_len_once : Determined 0 frame-len-kinds.ps frame-len-kinds.r frame-len-reads.Post
frame_len_once κs a v w x y p q = once p q

pub window_len_once : Determined 0 window-len-kinds.ps window-len-kinds.r window-len-reads.Post
window_len_once κs a v w x y p q = once p q

pub correlation_len_once : Determined 0 correlation-len-kinds.ps correlation-len-kinds.r correlation-len-reads.Post
correlation_len_once κs a v w x y p q = once p q

pub new_once : Determined 1 new-kinds.ps new-kinds.r new-reads.Post
new_once κs a v w x y p q = once p.0 q.0

pub new_leaves_once : (κs : Lfts 1) (a : Dens κs new-kinds.ps) (v w : (res_t new-kinds.r κs).Denot) (x y : AtExit (ended_of 1 new-kinds.ps new-kinds.r) κs)
    → new-reads.Post κs a v x → new-reads.Post κs a w y
    → x.0.now ≡ y.0.now
new_leaves_once κs a v w x y p q = once p.1 q.1

pub restart_once : Determined 1 restart-kinds.ps restart-kinds.r restart-reads.Post
restart_once κs a v w x y p q = once p.0 q.0

pub restart_leaves_once : (κs : Lfts 1) (a : Dens κs restart-kinds.ps) (v w : (res_t restart-kinds.r κs).Denot) (x y : AtExit (ended_of 1 restart-kinds.ps restart-kinds.r) κs)
    → restart-reads.Post κs a v x → restart-reads.Post κs a w y
    → x.0.now ≡ y.0.now
restart_leaves_once κs a v w x y p q = once p.1 q.1

pub relocate_once : Determined 1 relocate-kinds.ps relocate-kinds.r relocate-reads.Post
relocate_once κs a v w x y p q = once p.0 q.0

pub relocate_leaves_once : (κs : Lfts 1) (a : Dens κs relocate-kinds.ps) (v w : (res_t relocate-kinds.r κs).Denot) (x y : AtExit (ended_of 1 relocate-kinds.ps relocate-kinds.r) κs)
    → relocate-reads.Post κs a v x → relocate-reads.Post κs a w y
    → x.0.now ≡ y.0.now
relocate_leaves_once κs a v w x y p q = once p.1 q.1

pub reset_once : Determined 1 reset-kinds.ps reset-kinds.r reset-reads.Post
reset_once κs a v w x y p q = once p.0 q.0

pub reset_leaves_once : (κs : Lfts 1) (a : Dens κs reset-kinds.ps) (v w : (res_t reset-kinds.r κs).Denot) (x y : AtExit (ended_of 1 reset-kinds.ps reset-kinds.r) κs)
    → reset-reads.Post κs a v x → reset-reads.Post κs a w y
    → x.0.now ≡ y.0.now
reset_leaves_once κs a v w x y p q = once p.1 q.1

pub push_near_once : Determined 2 push-near-kinds.ps push-near-kinds.r push-near-reads.Post
push_near_once κs a v w x y p q = once p.0 q.0

pub push_near_leaves_once : (κs : Lfts 2) (a : Dens κs push-near-kinds.ps) (v w : (res_t push-near-kinds.r κs).Denot) (x y : AtExit (ended_of 2 push-near-kinds.ps push-near-kinds.r) κs)
    → push-near-reads.Post κs a v x → push-near-reads.Post κs a w y
    → (x.0.now ≡ y.0.now) ×
    (x.1.0.now ≡ y.1.0.now)
push_near_leaves_once κs a v w x y p q = (
  once p.1.0 q.1.0,
  once p.1.1 q.1.1,
)

pub gate_once : Determined 4 gate-kinds.ps gate-kinds.r gate-reads.Post
gate_once κs a v w x y p q = once p.0 q.0

pub gate_leaves_once : (κs : Lfts 4) (a : Dens κs gate-kinds.ps) (v w : (res_t gate-kinds.r κs).Denot) (x y : AtExit (ended_of 4 gate-kinds.ps gate-kinds.r) κs)
    → gate-reads.Post κs a v x → gate-reads.Post κs a w y
    → (x.0.now ≡ y.0.now) ×
    (x.1.1.0.now ≡ y.1.1.0.now)
gate_leaves_once κs a v w x y p q = (
  once p.1.0 q.1.0,
  once p.1.1 q.1.1,
)

pub rescan_once : Determined 3 rescan-kinds.ps rescan-kinds.r rescan-reads.Post
rescan_once κs a v w x y p q = once p q

pub peak_once : Determined 3 peak-kinds.ps peak-kinds.r peak-reads.Post
peak_once κs a v w x y p q = once p.0 q.0

pub peak_leaves_once : (κs : Lfts 3) (a : Dens κs peak-kinds.ps) (v w : (res_t peak-kinds.r κs).Denot) (x y : AtExit (ended_of 3 peak-kinds.ps peak-kinds.r) κs)
    → peak-reads.Post κs a v x → peak-reads.Post κs a w y
    → (x.0.now ≡ y.0.now) ×
    (x.1.1.0.now ≡ y.1.1.0.now)
peak_leaves_once κs a v w x y p q = (
  once p.1.0 q.1.0,
  once p.1.1 q.1.1,
)

pub state_frame_len_once : Determined 2 state-frame-len-kinds.ps state-frame-len-kinds.r state-frame-len-reads.Post
state_frame_len_once κs a v w x y p q = once p.0 q.0

pub state_frame_len_leaves_once : (κs : Lfts 2) (a : Dens κs state-frame-len-kinds.ps) (v w : (res_t state-frame-len-kinds.r κs).Denot) (x y : AtExit (ended_of 2 state-frame-len-kinds.ps state-frame-len-kinds.r) κs)
    → state-frame-len-reads.Post κs a v x → state-frame-len-reads.Post κs a w y
    → x.1.0.now ≡ y.1.0.now
state_frame_len_leaves_once κs a v w x y p q = once p.1 q.1

pub state_window_len_once : Determined 2 state-window-len-kinds.ps state-window-len-kinds.r state-window-len-reads.Post
state_window_len_once κs a v w x y p q = once p.0 q.0

pub state_window_len_leaves_once : (κs : Lfts 2) (a : Dens κs state-window-len-kinds.ps) (v w : (res_t state-window-len-kinds.r κs).Denot) (x y : AtExit (ended_of 2 state-window-len-kinds.ps state-window-len-kinds.r) κs)
    → state-window-len-reads.Post κs a v x → state-window-len-reads.Post κs a w y
    → x.1.0.now ≡ y.1.0.now
state_window_len_leaves_once κs a v w x y p q = once p.1 q.1

pub max_delay_once : Determined 2 max-delay-kinds.ps max-delay-kinds.r max-delay-reads.Post
max_delay_once κs a v w x y p q = once p.0 q.0

pub max_delay_leaves_once : (κs : Lfts 2) (a : Dens κs max-delay-kinds.ps) (v w : (res_t max-delay-kinds.r κs).Denot) (x y : AtExit (ended_of 2 max-delay-kinds.ps max-delay-kinds.r) κs)
    → max-delay-reads.Post κs a v x → max-delay-reads.Post κs a w y
    → x.1.0.now ≡ y.1.0.now
max_delay_leaves_once κs a v w x y p q = once p.1 q.1

pub window_back_off_once : Determined 2 window-back-off-kinds.ps window-back-off-kinds.r window-back-off-reads.Post
window_back_off_once κs a v w x y p q = once p.0 q.0

pub window_back_off_leaves_once : (κs : Lfts 2) (a : Dens κs window-back-off-kinds.ps) (v w : (res_t window-back-off-kinds.r κs).Denot) (x y : AtExit (ended_of 2 window-back-off-kinds.ps window-back-off-kinds.r) κs)
    → window-back-off-reads.Post κs a v x → window-back-off-reads.Post κs a w y
    → x.1.0.now ≡ y.1.0.now
window_back_off_leaves_once κs a v w x y p q = once p.1 q.1

pub search_range_once : Determined 2 search-range-kinds.ps search-range-kinds.r search-range-reads.Post
search_range_once κs a v w x y p q = once p.0 q.0

pub search_range_leaves_once : (κs : Lfts 2) (a : Dens κs search-range-kinds.ps) (v w : (res_t search-range-kinds.r κs).Denot) (x y : AtExit (ended_of 2 search-range-kinds.ps search-range-kinds.r) κs)
    → search-range-reads.Post κs a v x → search-range-reads.Post κs a w y
    → x.1.0.now ≡ y.1.0.now
search_range_leaves_once κs a v w x y p q = once p.1 q.1

pub frames_once : Determined 2 frames-kinds.ps frames-kinds.r frames-reads.Post
frames_once κs a v w x y p q = once p.0 q.0

pub frames_leaves_once : (κs : Lfts 2) (a : Dens κs frames-kinds.ps) (v w : (res_t frames-kinds.r κs).Denot) (x y : AtExit (ended_of 2 frames-kinds.ps frames-kinds.r) κs)
    → frames-reads.Post κs a v x → frames-reads.Post κs a w y
    → x.1.0.now ≡ y.1.0.now
frames_leaves_once κs a v w x y p q = once p.1 q.1

pub skipped_once : Determined 2 skipped-kinds.ps skipped-kinds.r skipped-reads.Post
skipped_once κs a v w x y p q = once p.0 q.0

pub skipped_leaves_once : (κs : Lfts 2) (a : Dens κs skipped-kinds.ps) (v w : (res_t skipped-kinds.r κs).Denot) (x y : AtExit (ended_of 2 skipped-kinds.ps skipped-kinds.r) κs)
    → skipped-reads.Post κs a v x → skipped-reads.Post κs a w y
    → x.1.0.now ≡ y.1.0.now
skipped_leaves_once κs a v w x y p q = once p.1 q.1

pub last_scan_ratio_once : Determined 2 last-scan-ratio-kinds.ps last-scan-ratio-kinds.r last-scan-ratio-reads.Post
last_scan_ratio_once κs a v w x y p q = once p.0 q.0

pub last_scan_ratio_leaves_once : (κs : Lfts 2) (a : Dens κs last-scan-ratio-kinds.ps) (v w : (res_t last-scan-ratio-kinds.r κs).Denot) (x y : AtExit (ended_of 2 last-scan-ratio-kinds.ps last-scan-ratio-kinds.r) κs)
    → last-scan-ratio-reads.Post κs a v x → last-scan-ratio-reads.Post κs a w y
    → x.1.0.now ≡ y.1.0.now
last_scan_ratio_leaves_once κs a v w x y p q = once p.1 q.1

pub last_scan_peak_at_once : Determined 2 last-scan-peak-at-kinds.ps last-scan-peak-at-kinds.r last-scan-peak-at-reads.Post
last_scan_peak_at_once κs a v w x y p q = once p.0 q.0

pub last_scan_peak_at_leaves_once : (κs : Lfts 2) (a : Dens κs last-scan-peak-at-kinds.ps) (v w : (res_t last-scan-peak-at-kinds.r κs).Denot) (x y : AtExit (ended_of 2 last-scan-peak-at-kinds.ps last-scan-peak-at-kinds.r) κs)
    → last-scan-peak-at-reads.Post κs a v x → last-scan-peak-at-reads.Post κs a w y
    → x.1.0.now ≡ y.1.0.now
last_scan_peak_at_leaves_once κs a v w x y p q = once p.1 q.1

pub last_scan_origin_once : Determined 2 last-scan-origin-kinds.ps last-scan-origin-kinds.r last-scan-origin-reads.Post
last_scan_origin_once κs a v w x y p q = once p.0 q.0

pub last_scan_origin_leaves_once : (κs : Lfts 2) (a : Dens κs last-scan-origin-kinds.ps) (v w : (res_t last-scan-origin-kinds.r κs).Denot) (x y : AtExit (ended_of 2 last-scan-origin-kinds.ps last-scan-origin-kinds.r) κs)
    → last-scan-origin-reads.Post κs a v x → last-scan-origin-reads.Post κs a w y
    → x.1.0.now ≡ y.1.0.now
last_scan_origin_leaves_once κs a v w x y p q = once p.1 q.1

pub scans_once : Determined 2 scans-kinds.ps scans-kinds.r scans-reads.Post
scans_once κs a v w x y p q = once p.0 q.0

pub scans_leaves_once : (κs : Lfts 2) (a : Dens κs scans-kinds.ps) (v w : (res_t scans-kinds.r κs).Denot) (x y : AtExit (ended_of 2 scans-kinds.ps scans-kinds.r) κs)
    → scans-reads.Post κs a v x → scans-reads.Post κs a w y
    → x.1.0.now ≡ y.1.0.now
scans_leaves_once κs a v w x y p q = once p.1 q.1
