-- `ring_window::window_floats` meets its contract.
use mathlib.Core.Path.{ap, ◌∙◌, subst}
use Prim.Native.Nat.{ℕ}
use mathlib.Core.List.{map}
use lib.Ieee.{binary32, of_bits}
use native.Mathlib.Omega.{arith}
use lib.ListN.{length}
use Rattle.ring.proofs.Accepted.{ring_accepted}
use Rattle.ring_window.specs.Cuts.{Cuts}
use Rattle.ring_window.proofs.Windows.{pieces_are, head_counted, tail_counted}
use Rattle.ring_window.proofs.Answers.{is_refused_lem, is_accepted_lem, reading_refused, reading_done, floats_refused, floats_done}
use Rattle.ring_window.proofs.window_floats.Goals as goal

pub cut-c-requires : goal.cut-c-requires
cut-c-requires c =
    let a = c.args in
    let h = is_accepted_lem a.ring (length a.buf.now) _ c.next_abs-next.ensures _ c.in-Is.is in
    let r = ring_accepted a.ring (length a.buf.now) h.0 in
    (r.0, omega (arith, h.1, r.1))

pub returns-in-Refused : goal.returns-in-Refused
returns-in-Refused c =
    let a = c.args in
    let h = is_refused_lem a.ring (length a.buf.now) _ c.next_abs-next.ensures _ c.in-Refused.is in
    record {
      answer = reading_refused a.ring (length a.buf.now) a.at a.back (length a.window.now) _ h;
      window = floats_refused a.ring a.buf.now a.at a.back a.window.now h.0;
    }

pub returns-in-Is : goal.returns-in-Is
returns-in-Is c =
    let a = c.args in
    let h = is_accepted_lem a.ring (length a.buf.now) _ c.next_abs-next.ensures _ c.in-Is.is in
    let k = subst (λ (m : ℕ). Cuts m (length a.buf.now) a.at a.back (length a.window.now) c.cut-c.result) h.1 c.cut-c.ensures in
    record {
      answer = reading_done a.ring (length a.buf.now) a.at a.back (length a.window.now) _ _ h.0 (head_counted a.ring a.buf.now a.at a.back _ _ h.0 k) (tail_counted a.ring a.buf.now a.at a.back _ _ h.0 k);
      window = floats_done a.ring a.buf.now a.at a.back a.window.now _ h.0 (c.fill.ensures ∙ ap (map (of_bits binary32)) (pieces_are a.ring a.buf.now a.at a.back _ _ h.0 k));
    }
