-- What is known where a call of the gate is not refused.
use Rattle.std.proofs.Common.{◌≡◌, ℕ, ◌<◌, true, not, List, length, sym, ◌∙◌, arith, eqb-true}
use lib.Ieee.{Float}
use borrow.Author.Tests.{eqb-false, not-true}
use Rattle.answers.proofs.Refusals.{passed, passed_both}
use Rattle.fine.specs.State.{frame_of, span_of, full, first_refusals}
use Rattle.fine.specs.declared.Fine.{Fine}
use Rattle.fine.proofs.Laws.{both_hold, accepted}
use Rattle.fine_gate.specs.Gate.{is_frame, rescan_lengths, gate_lengths, near_refusal, gate_refusal}

is_frame_lem : (span len : ℕ) → is_frame span len ≡ true → len ≡ frame_of span
unfolding is_frame
is_frame_lem span len e = eqb-true len (frame_of span) e

-- a near sample that is taken has a place in the near frame
module _ (s : Fine) (near_len : ℕ) (x : Float) (n : ℕ) (e : n ≡ near_refusal s near_len x) (z : n ≡ 0) where
  pub room : s.frames.len < s.lengths.frame
  unfolding near_refusal
  room =
      let a = passed_both (first_refusals s (is_frame (span_of s) near_len)) _ (sym e ∙ z) in
      let b = accepted s _ a.0 in
      let c = passed (not (full s)) 5 _ a.1 in
      let d = eqb-false s.frames.len s.lengths.frame (not-true _ c.0) in
      let l = b.1.near in
      omega arith

  pub place : s.frames.len < near_len
  unfolding near_refusal
  place =
      let a = passed_both (first_refusals s (is_frame (span_of s) near_len)) _ (sym e ∙ z) in
      let b = accepted s _ a.0 in
      let c = is_frame_lem (span_of s) near_len b.0 in
      let f = b.1.frame in
      let r = room in
      omega arith

-- a gate that is not refused is lent a near frame and a retained frame of one length
pub one_length : (s : Fine) (near : List Float) (retainedLen : ℕ) (far : List Float) (head tail n : ℕ)
    → n ≡ gate_refusal s near retainedLen far head tail → n ≡ 0 → length near ≡ retainedLen
unfolding gate_refusal gate_lengths rescan_lengths
one_length s near retainedLen far head tail n e z =
    let a = passed_both (first_refusals s (gate_lengths (span_of s) (length near) retainedLen (length far))) _ (sym e ∙ z) in
    let b = both_hold _ _ (accepted s _ a.0).0 in
    let c = both_hold _ _ b.1 in
    is_frame_lem (span_of s) (length near) b.0 ∙ sym (is_frame_lem (span_of s) retainedLen c.0)
