-- Every public call: its contract admits one result.
use Rattle.answers.specs.Once.{Determined}
use Rattle.answers.proofs.Once.{once}
use Rattle.fine.proofs.Fine.new.Kinds as new-kinds
use Rattle.fine.proofs.Fine.new.Reads as new-reads
use Rattle.fine.proofs.Fine.restart.Kinds as restart-kinds
use Rattle.fine.proofs.Fine.restart.Reads as restart-reads
use Rattle.fine.proofs.Fine.relocate.Kinds as relocate-kinds
use Rattle.fine.proofs.Fine.relocate.Reads as relocate-reads
use Rattle.fine.proofs.Fine.reset.Kinds as reset-kinds
use Rattle.fine.proofs.Fine.reset.Reads as reset-reads
use Rattle.fine.proofs.Fine.frame_len.Kinds as frame-len-kinds
use Rattle.fine.proofs.Fine.frame_len.Reads as frame-len-reads
use Rattle.fine.proofs.Fine.window_len.Kinds as window-len-kinds
use Rattle.fine.proofs.Fine.window_len.Reads as window-len-reads
use Rattle.fine.proofs.Fine.max_delay.Kinds as max-delay-kinds
use Rattle.fine.proofs.Fine.max_delay.Reads as max-delay-reads
use Rattle.fine.proofs.Fine.window_back_off.Kinds as window-back-off-kinds
use Rattle.fine.proofs.Fine.window_back_off.Reads as window-back-off-reads
use Rattle.fine.proofs.Fine.search_range.Kinds as search-range-kinds
use Rattle.fine.proofs.Fine.search_range.Reads as search-range-reads
use Rattle.fine.proofs.Fine.frames.Kinds as frames-kinds
use Rattle.fine.proofs.Fine.frames.Reads as frames-reads
use Rattle.fine.proofs.Fine.skipped.Kinds as skipped-kinds
use Rattle.fine.proofs.Fine.skipped.Reads as skipped-reads
use Rattle.fine.proofs.Fine.last_scan_ratio.Kinds as last-scan-ratio-kinds
use Rattle.fine.proofs.Fine.last_scan_ratio.Reads as last-scan-ratio-reads
use Rattle.fine.proofs.Fine.last_scan_peak_at.Kinds as last-scan-peak-at-kinds
use Rattle.fine.proofs.Fine.last_scan_peak_at.Reads as last-scan-peak-at-reads
use Rattle.fine.proofs.Fine.last_scan_origin.Kinds as last-scan-origin-kinds
use Rattle.fine.proofs.Fine.last_scan_origin.Reads as last-scan-origin-reads
use Rattle.fine.proofs.Fine.scans.Kinds as scans-kinds
use Rattle.fine.proofs.Fine.scans.Reads as scans-reads

pub new_once : Determined 0 new-kinds.ps new-kinds.r new-reads.Post
new_once κs a v w x y p q = once p q

pub restart_once : Determined 0 restart-kinds.ps restart-kinds.r restart-reads.Post
restart_once κs a v w x y p q = once p q

pub relocate_once : Determined 0 relocate-kinds.ps relocate-kinds.r relocate-reads.Post
relocate_once κs a v w x y p q = once p q

pub reset_once : Determined 0 reset-kinds.ps reset-kinds.r reset-reads.Post
reset_once κs a v w x y p q = once p q

pub frame_len_once : Determined 0 frame-len-kinds.ps frame-len-kinds.r frame-len-reads.Post
frame_len_once κs a v w x y p q = once p q

pub window_len_once : Determined 0 window-len-kinds.ps window-len-kinds.r window-len-reads.Post
window_len_once κs a v w x y p q = once p q

pub max_delay_once : Determined 0 max-delay-kinds.ps max-delay-kinds.r max-delay-reads.Post
max_delay_once κs a v w x y p q = once p q

pub window_back_off_once : Determined 0 window-back-off-kinds.ps window-back-off-kinds.r window-back-off-reads.Post
window_back_off_once κs a v w x y p q = once p q

pub search_range_once : Determined 0 search-range-kinds.ps search-range-kinds.r search-range-reads.Post
search_range_once κs a v w x y p q = once p q

pub frames_once : Determined 0 frames-kinds.ps frames-kinds.r frames-reads.Post
frames_once κs a v w x y p q = once p q

pub skipped_once : Determined 0 skipped-kinds.ps skipped-kinds.r skipped-reads.Post
skipped_once κs a v w x y p q = once p q

pub last_scan_ratio_once : Determined 0 last-scan-ratio-kinds.ps last-scan-ratio-kinds.r last-scan-ratio-reads.Post
last_scan_ratio_once κs a v w x y p q = once p q

pub last_scan_peak_at_once : Determined 0 last-scan-peak-at-kinds.ps last-scan-peak-at-kinds.r last-scan-peak-at-reads.Post
last_scan_peak_at_once κs a v w x y p q = once p q

pub last_scan_origin_once : Determined 0 last-scan-origin-kinds.ps last-scan-origin-kinds.r last-scan-origin-reads.Post
last_scan_origin_once κs a v w x y p q = once p q

pub scans_once : Determined 0 scans-kinds.ps scans-kinds.r scans-reads.Post
scans_once κs a v w x y p q = once p q
