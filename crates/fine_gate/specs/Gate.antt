-- SPECIFICATION 9: a near sample, the gate on a full near frame, and the rescan of a retained one.
use Rattle.std.specs.Prelude.{ℕ, ◌+◌, ◌/◌, Bool, true, false, not, List, length, ◌==◌, from_bits, nat_lt, slice_set, Float}
use Rattle.std.specs.Float.{binary64}
use Rattle.std.specs.Float.Ieee.{lt}
use Rattle.std.specs.Float.Ieee.Scale.{finite}
use Rattle.answers.specs.Pick.{pick, both, either}
use Rattle.answers.specs.Refusals.{require, before, if_refused, none, not_finite, frame_waits, no_full_frame}
use Rattle.answers.specs.Numbers.{next_count}
use Rattle.folds.specs.Sums.{upto, at, square, all_finite}
use Rattle.fine.specs.State.{frame_of, window_of, span_of, with_frames, full, first_refusals}
use Rattle.fine.specs.declared.Frames.{Frames}
use Rattle.fine.specs.declared.Fine.{Fine}
use Rattle.fine_gate.specs.declared.Taking.TheVariants as taking
use Rattle.fine_gate.specs.declared.Took.{Took}
use Rattle.fine_gate.specs.declared.Passage.{Passage}
use Rattle.fine_gate.specs.declared.Passage.TheVariants.{Skipped, Silent, Taken}
use Rattle.fine_gate.specs.declared.GateAnswer.{GateAnswer}
use Rattle.fine_gate.specs.declared.GateAnswer.TheVariants as gate
use Rattle.fine_gate.specs.declared.Gated.{Gated}
use Rattle.fine_gate.specs.declared.RescanAnswer.{RescanAnswer}
use Rattle.fine_gate.specs.declared.RescanAnswer.TheVariants as rescan
use Rattle.fine_gate.specs.declared.Rescanned.{Rescanned}

-- ---- the lent buffers. Near and retained frame are two f32 buffers as long as the frame; the far window is frame + span long.

unfoldable pub is_frame : ℕ → ℕ → Bool
is_frame span len = len == frame_of span

unfoldable pub rescan_lengths : ℕ → ℕ → ℕ → Bool
rescan_lengths span retainedLen farLen = both (is_frame span retainedLen) (farLen == window_of span)

unfoldable pub gate_lengths : ℕ → ℕ → ℕ → ℕ → Bool
gate_lengths span near_len retainedLen farLen = both (is_frame span near_len) (rescan_lengths span retainedLen farLen)

-- ---- one near sample. The near frame is lent.

pub record NearPush : Type 0 where
  pub took : Took
  pub near : List Float

abbrev pub near_push : Took → List Float → NearPush
near_push t near = record { took = t; near = near }

unfoldable pub near_refusal : Fine → ℕ → Float → ℕ
near_refusal s near_len x =
    before (first_refusals s (is_frame (span_of s) near_len))
    (require (not (full s)) frame_waits
    (require (finite x) not_finite
    none))

abbrev pub longer : Frames → Frames
longer f = record { len = f.len + 1; retained = f.retained; taken = f.taken; skipped = f.skipped }

-- Counts the sample in the state, and tells whether it completed the frame.
unfoldable pub took_one : Fine → Took
took_one s = let t = with_frames s (longer s.frames) in record { fine = t; answer = pick (full t) taking.Full taking.Taken }

unfoldable pub pushed_near : Fine → List Float → Float → NearPush
pushed_near s near x =
    let n = near_refusal s (length near) x in
    if_refused n
    (near_push (record { fine = s; answer = taking.Refused n }) near)
    (near_push (took_one s) (slice_set near s.frames.len x))

-- ---- the gate judges a near frame and its far window, which lacks `head` and `tail` samples

-- At most this part of the frame may be missing at the window's end (TAIL_DEFICIT_LIMIT_DEN): a host that runs one block ahead always misses a little.
abbrev pub tail_deficit_part : ℕ
tail_deficit_part = 4

-- A window is skipped if any of its head is missing, or more than frame / 4 of its tail.
unfoldable pub skips : Fine → ℕ → ℕ → Bool
skips s head tail = either (nat_lt 0 head) (nat_lt (s.lengths.frame / tail_deficit_part) tail)

-- Sums the squares in f64, in order.
unfoldable pub energy_of : List Float → Float
energy_of xs = upto (λ i. square (at xs i)) (length xs)

-- 1e-8 (FRAME_ENERGY_FLOOR): silence carries no delay, and would only dilute the frames that do.
abbrev pub energy_floor : Float
energy_floor = from_bits binary64 0x3e45798ee2308c3a

-- A frame is silent if the energy of either side is below 1e-8.
unfoldable pub silent : List Float → List Float → Bool
silent near far = either (lt (energy_of near) energy_floor) (lt (energy_of far) energy_floor)

unfoldable pub passage : Fine → List Float → List Float → ℕ → ℕ → Passage
passage s near far head tail = pick (skips s head tail) Skipped (pick (silent near far) Silent Taken)

-- A gate that skips reads nothing; other gates read both sides whole.
unfoldable pub readable : Fine → List Float → List Float → ℕ → ℕ → Bool
readable s near far head tail = either (skips s head tail) (both (all_finite near) (all_finite far))

-- ---- the gate on the near frame. Near frame, retained frame and far window are lent.

pub record Gating : Type 0 where
  pub gated : Gated
  pub retained : List Float

abbrev pub gating : Gated → List Float → Gating
gating g retained = record { gated = g; retained = retained }

unfoldable pub gate_refusal : Fine → List Float → ℕ → List Float → ℕ → ℕ → ℕ
gate_refusal s near retainedLen far head tail =
    before (first_refusals s (gate_lengths (span_of s) (length near) retainedLen (length far)))
    (require (full s) no_full_frame
    (require (readable s near far head tail) not_finite
    none))

-- The near frame is consumed in every case. Skipped and taken frames are counted. A skipped or silent frame makes the state forget the retained frame.
abbrev pub consumed : Frames → Passage → Frames
consumed f Skipped = record { len = 0; retained = false; taken = f.taken; skipped = next_count f.skipped }
consumed f Silent = record { len = 0; retained = false; taken = f.taken; skipped = f.skipped }
consumed f Taken = record { len = 0; retained = true; taken = next_count f.taken; skipped = f.skipped }

-- The first taken frame gives no candidate. From the second on, the host asks the peak rule.
abbrev pub gate_answer : Frames → Passage → GateAnswer
gate_answer f Skipped = gate.Skipped
gate_answer f Silent = gate.Silent
gate_answer f Taken = pick (f.taken == 0) gate.First gate.Later

-- A taken frame is retained.
abbrev pub retained_by : Passage → List Float → List Float → List Float
retained_by Skipped near retained = retained
retained_by Silent near retained = retained
retained_by Taken near retained = near

unfoldable pub passed : Fine → Passage → Gated
passed s p = record { fine = with_frames s (consumed s.frames p); answer = gate_answer s.frames p }

unfoldable pub gated : Fine → List Float → List Float → List Float → ℕ → ℕ → Gating
gated s near retained far head tail =
    let n = gate_refusal s near (length retained) far head tail in
    let p = passage s near far head tail in
    if_refused n
    (gating (record { fine = s; answer = gate.Refused n }) retained)
    (gating (passed s p) (retained_by p near retained))

-- ---- a rescan applies the same gate to the retained frame. Retained frame and far window are lent. It counts no skip and forgets nothing.

unfoldable pub rescan_refusal : Fine → List Float → List Float → ℕ → ℕ → ℕ
rescan_refusal s retained far head tail =
    before (first_refusals s (rescan_lengths (span_of s) (length retained) (length far)))
    (require (either (not s.frames.retained) (readable s retained far head tail)) not_finite
    none)

abbrev pub rescan_answer : Passage → RescanAnswer
rescan_answer Skipped = rescan.Skipped
rescan_answer Silent = rescan.Silent
rescan_answer Taken = rescan.Taken

abbrev pub rescanned_by : Fine → RescanAnswer → Rescanned
rescanned_by s a = record { fine = s; answer = a }

-- Answers "nothing retained" first if that is so.
unfoldable pub rescanned : Fine → List Float → List Float → ℕ → ℕ → Rescanned
rescanned s retained far head tail =
    let n = rescan_refusal s retained far head tail in
    if_refused n
    (rescanned_by s (rescan.Refused n))
    (pick s.frames.retained (rescanned_by s (rescan_answer (passage s retained far head tail))) (rescanned_by s rescan.NothingRetained))
