-- A patient host comes to the end of the log: one that at each call has 16 bytes of the events at hand and 16,384 of each side, or all that are left with word of their
-- end. How it cuts the bytes may depend on all that it has seen. So there are such hosts for every recording, and `streamed_log` says what they get.
use Prim.Native.Nat.{ℕ, zero, suc, ◌+◌, ◌≤◌, ◌<◌}
use mathlib.Core.Path.{◌≡◌, refl, ap, ◌∙◌}
use mathlib.Core.Bool.{false}
use mathlib.Core.List.{List, [], ◌∷◌, ◌++◌}
use native.Mathlib.Omega.{arith}
use lib.ListN.{length, length-drop}
use Rattle.scan.specs.State.{Buffers}
use Rattle.log_lines.specs.declared.Line.{Line}
use Rattle.recording.specs.declared.Header.{Header}
use Rattle.replay_stream.specs.Stream.{Place, Hand, Bytes, short, Input, Entries, FarSide, NearSide, Answer, Says, Silent, Wants, Over, Next, next_line}
use Rattle.replay_stream.specs.Hosts.{Rest, rest_after, FairHand, NextCall, Noted, noted, Streamed, over, says, wants, plenty, piece_of, used_of}
use Rattle.replay_stream.proofs.Fronts.{hand_length}
use Rattle.replay_stream.proofs.Plain.{said}
use Rattle.replay_stream.proofs.Standing.{Fits}
use Rattle.replay_stream.proofs.Turning.{At, StandsAt, next_law}
use Rattle.replay_stream.proofs.Silence.{never_silent}
use Rattle.replay_stream.proofs.Wanting.{never_stuck}
use Rattle.replay_stream.proofs.Whole.{to_come}

-- plenty of every input is at hand
abbrev pub Plenty : Hand → Type 0
Plenty hand = (i : Input) → short (plenty i) (piece_of i hand) ≡ false

-- how a host hands the bytes that are left
pub record Patience : Type 0 where
  pub give : Place → Buffers → Rest → Hand
  pub fair : (p : Place) (b : Buffers) (r : Rest) → FairHand r (give p b r)
  pub enough : (p : Place) (b : Buffers) (r : Rest) → Plenty (give p b r)

abbrev size : Rest → ℕ
size r = length r.events + length r.far + length r.near

-- what was used of an input is gone
smaller : (i : Input) (u : Bytes) (r : Rest) (hand : Hand) → FairHand r hand → Fits u hand → 0 < used_of i u → size (rest_after u r) < size r
smaller Entries u r hand fair fits some =
    omega (arith, fits.events, hand_length r.events hand.events fair.events, length-drop u.events r.events, length-drop u.far r.far, length-drop u.near r.near)
smaller FarSide u r hand fair fits some =
    omega (arith, fits.far, hand_length r.far hand.far fair.far, length-drop u.events r.events, length-drop u.far r.far, length-drop u.near r.near)
smaller NearSide u r hand fair fits some =
    omega (arith, fits.near, hand_length r.near hand.near fair.near, length-drop u.events r.events, length-drop u.far r.far, length-drop u.near r.near)

no_larger : (u : Bytes) (r : Rest) → size (rest_after u r) ≤ size r
no_larger u r = omega (arith, length-drop u.events r.events, length-drop u.far r.far, length-drop u.near r.near)

module _ (events far near : List ℕ) (h : Header) (host : Patience) where
  abbrev lines : Place → Buffers → Rest → List Line
  lines p b r = to_come events far near h p b r

  -- one call: the calls behind it are given
  module _ (p : Place) (b : Buffers) (r : Rest) (st : StandsAt events far near h p r) where
    abbrev hand : Hand
    hand = host.give p b r

    abbrev t : Next
    t = next_line h p b hand

    abbrev left : Rest
    left = rest_after t.used r

    abbrev later : List Line
    later = lines t.place t.buffers left

    law : At events far near h p b r hand t
    law = next_law events far near h p b r hand st (host.fair p b r)

    abbrev c : NextCall h p b r
    c = record { hand = hand; fair = host.fair p b r; gave = t; contract = refl }

    ahead_is : (a : Answer) → t.answer ≡ a → lines p b r ≡ said a ++ later
    ahead_is a q = law.tells ∙ ap (λ (x : Answer). said x ++ later) q

    abbrev Ended : Place → Buffers → Rest → Type 0
    Ended q a x = (ts : List Noted) × Streamed h q a x ts

    answered : (length later + size left < length (lines p b r) + size r → Ended t.place t.buffers left) → (a : Answer) → t.answer ≡ a → Ended p b r
    answered again (Says l) q =
        let behind = again (omega (arith, ap length (ahead_is (Says l) q), no_larger t.used r)) in
        (noted l t.place.session ∷ behind.0, says p b r l behind.0 c q behind.1)
    answered again Silent q = absurd (never_silent h p b hand q)
    answered again (Wants i) q =
        let some = never_stuck events far near h p b r hand st (host.fair p b r) i (host.enough p b r i) q in
        let behind = again (omega (arith, ap length (ahead_is (Wants i) q), smaller i t.used r hand (host.fair p b r) law.fits some)) in
        (behind.0, wants p b r i behind.0 c q behind.1)
    answered again Over q = ([], over p b r c q)

  -- each call leaves fewer lines, or fewer bytes
  finish : (k : ℕ) (p : Place) (b : Buffers) (r : Rest) → StandsAt events far near h p r → length (lines p b r) + size r < k → (ts : List Noted) × Streamed h p b r ts
  finish zero p b r st m = absurd (omega (arith, m))
  finish (suc k) p b r st m =
      let n = next_line h p b (host.give p b r) in
      answered p b r st (λ less. finish k n.place n.buffers (rest_after n.used r) (law p b r st).stands (omega (arith, m, less))) n.answer refl

  pub patient_ends : (p : Place) (b : Buffers) (r : Rest) → StandsAt events far near h p r → (ts : List Noted) × Streamed h p b r ts
  patient_ends p b r st = finish (suc (length (lines p b r) + size r)) p b r st (omega arith)
