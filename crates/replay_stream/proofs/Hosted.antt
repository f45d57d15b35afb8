-- Every recording has a host that streams it to its end, and what it gets is the log.
use Rattle.std.specs.Prelude.{Option, Some, None}
use Prim.Native.Nat.{ℕ}
use mathlib.Core.Path.{◌≡◌, refl, sym, ap, ◌∙◌, subst}
use mathlib.Core.Bool.{true, false}
use mathlib.Core.List.{List, [], ◌∷◌}
use lib.ListN.{drop}
use borrow.Author.Tests.{eq-eqb}
use Rattle.answers.specs.Pick.{pick}
use Rattle.scan.specs.Bins.{geometry_of, full_slack, envelope_len, near_len, window_len, prefix_len, lags}
use Rattle.scan.specs.Calls.{all_lengths}
use Rattle.scan.specs.declared.Geometry.{Geometry}
use Rattle.scan.proofs.Laws.{both_and, length_zeros}
use Rattle.log_lines.specs.declared.Line.{Line}
use Rattle.log_lines.specs.declared.Line.TheVariants as line
use Rattle.recording.specs.Recording.{offset_of, opened, header_length}
use Rattle.recording.proofs.Forms.{opened_whole}
use Rattle.recording.specs.declared.Header.{Header}
use Rattle.replay.specs.Log.{log_of, new_session, clear_buffers}
use Rattle.replay.proofs.Ready.{accepts}
use Rattle.replay_stream.specs.Stream.{Piece, short, Input, Entries, FarSide, NearSide}
use Rattle.replay_stream.specs.Hosts.{Rest, rest, Front, lines_of, opens, Streams, unopened, streams, plenty, piece_of}
use Rattle.replay_stream.specs.Notes.{whole_hand, noted_of}
use Rattle.replay_stream.proofs.Fronts.{header_handed}
use Rattle.replay_stream.proofs.Whole.{start_stands, opened_log, streamed_log}
use Rattle.replay_stream.proofs.Patient.{Patience, patient_ends}
use Rattle.replay_stream.proofs.Alike.{whole_fair}
use Rattle.replay_stream.proofs.Noting.{streamed_noted}

-- clear buffers have the right lengths
clear_fits : (g : Geometry) → all_lengths full_slack g (clear_buffers g) ≡ true
clear_fits g =
    both_and _ _ (eq-eqb _ (envelope_len full_slack g) (length_zeros (envelope_len full_slack g)))
    (both_and _ _ (eq-eqb _ (near_len g) (length_zeros (near_len g)))
    (both_and _ _ (eq-eqb _ (window_len g) (length_zeros (window_len g)))
    (both_and _ _ (eq-eqb _ (prefix_len g) (length_zeros (prefix_len g)))
    (both_and _ _ (eq-eqb _ (prefix_len g) (length_zeros (prefix_len g)))
    (both_and _ _ (eq-eqb _ (lags g) (length_zeros (lags g))) (eq-eqb _ (lags g) (length_zeros (lags g))))))))

-- a patient host, whatever pieces it hands, comes to the end
module _ (host : Patience) (events far near : List ℕ) (first : Piece) (f : Front events first) (w : short (header_length first.bytes) first ≡ false) where
  some_lines : (o : Option Header) → opened events ≡ o → (ls : List Line) × Streams events far near ls
  some_lines None q = (line.BadHeader ∷ [], unopened first f w (sym (header_handed events first f w) ∙ q))
  some_lines (Some h) q =
      let g = geometry_of h.rate h.ceiling in
      let s = new_session h.rate h.ceiling in
      let b = clear_buffers g in
      let r = rest (drop (offset_of h.form) events) far near in
      let end = patient_ends events far near h host (opens s) b r (start_stands events far near h (opened_whole events h q)) in
      (lines_of end.0, streams first h b b s end.0 f w (sym (header_handed events first f w) ∙ q) (sym (accepts events h b q (clear_fits g))) end.1)

  pub patient_log : Streams events far near (log_of events far near)
  patient_log =
      let some = some_lines (opened events) refl in
      subst (Streams events far near) (streamed_log events far near some.0 some.1) some.1

-- the simplest one: all that is left is at hand
ended_enough : (r : Rest) (i : Input) → short (plenty i) (piece_of i (whole_hand r)) ≡ false
unfolding pick
ended_enough r Entries = refl
ended_enough r FarSide = refl
ended_enough r NearSide = refl

pub all_at_once : Patience
all_at_once = record { give = λ p b r. whole_hand r; fair = λ p b r. whole_fair r; enough = λ p b r. ended_enough r }

pub always_streams : (events far near : List ℕ) → Streams events far near (log_of events far near)
unfolding pick
always_streams events far near =
    let r = rest events far near in
    patient_log all_at_once events far near (whole_hand r).events (whole_fair r).events refl

-- the notes have the log's lines
pub noted_log : (events far near : List ℕ) (h : Header) → opened events ≡ Some h → lines_of (noted_of h events far near) ≡ log_of events far near
noted_log events far near h q =
    let g = geometry_of h.rate h.ceiling in
    let s = new_session h.rate h.ceiling in
    let b = clear_buffers g in
    let r = rest (drop (offset_of h.form) events) far near in
    let ready = sym (accepts events h b q (clear_fits g)) in
    let end = patient_ends events far near h all_at_once (opens s) b r (start_stands events far near h (opened_whole events h q)) in
    ap lines_of (sym (streamed_noted events far near h b b s end.0 q ready end.1)) ∙ opened_log events far near h b b s end.0 q ready end.1
