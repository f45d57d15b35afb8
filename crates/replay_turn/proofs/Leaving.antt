-- A near event that is cut behind a line, and the stage that this leaves.
use Prim.Native.Nat.{ℕ, ◌-◌, ◌≤◌, min}
use mathlib.Core.Path.{◌≡◌, refl, sym, ap, ◌∙◌}
use mathlib.Core.Bool.{Bool, true, false}
use mathlib.Core.List.{List}
use native.Mathlib.Omega.{arith}
use lib.Dec.{ltb}
use lib.Ieee.{Float}
use lib.ListN.{length}
use borrow.Author.Tests.{lt-ltb, le-ltb, ltb-true, ltb-false}
use Rattle.scan.specs.State.{Buffers}
use Rattle.recording.specs.Samples.{bytes_of}
use Rattle.recording.specs.declared.Form.{Form}
use Rattle.recording.proofs.Forms.{bytes_mono}
use Rattle.replay.specs.declared.Session.{Session}
use Rattle.replay_stream.specs.Stream.{bytes_used, next, told, Cut, midway, near_cut}
use Rattle.replay_stream.proofs.Cutting.{cuts}
use Rattle.replay_near.specs.Telling.{CutTold, cuts_at, cut_tells}
use Rattle.replay_near.specs.declared.NearCut.{NearCut}
use Rattle.replay_stream.specs.Giving.{turned, gives}

-- a cut leaves no more samples than there were
pub cut_within : (r : NearCut) (b' : Buffers) (e : ℕ) (s : Session) (b : Buffers) (xs : List Float) (index : ℕ) → cuts_at r b' ≡ cut_tells (near_cut e s b xs index) → r.left ≤ length xs
cut_within r b' e s b xs index q = omega (arith, ap (λ (t : CutTold). t.left) q, (cuts e s b xs index).count)

pub near_turned : (form : Form) (n e left : ℕ) (r : NearCut) (b' : Buffers) (c : Cut) → cuts_at r b' ≡ cut_tells c
    → gives (turned n (midway e r.index r.left) r.session r.answer (bytes_used 0 0 (bytes_of form (left - r.left)))) b'
    ≡ next n (midway e c.index (length c.left)) c.session c.buffers (told c.lines) (bytes_used 0 0 (bytes_of form (left - length c.left)))
near_turned form n e left r b' c q = ap (λ (t : CutTold). next n (midway e t.index t.left) t.session t.buffers t.answer (bytes_used 0 0 (bytes_of form (left - t.left)))) q

-- no more than 16,384 bytes are looked at
pub lacks_is : (form : Form) (n left : ℕ) → left ≤ 4096 → ltb n (bytes_of form left) ≡ ltb (min n (bytes_of form 4096)) (bytes_of form left)
lacks_is form n left few = go (ltb n (bytes_of form left)) refl
  where
    go : (t : Bool) → ltb n (bytes_of form left) ≡ t → ltb n (bytes_of form left) ≡ ltb (min n (bytes_of form 4096)) (bytes_of form left)
    go true e = e ∙ sym (lt-ltb (min n (bytes_of form 4096)) (bytes_of form left) (omega (arith, bytes_mono form left 4096 few, ltb-true n (bytes_of form left) e)))
    go false e = e ∙ sym (le-ltb (min n (bytes_of form 4096)) (bytes_of form left) (omega (arith, bytes_mono form left 4096 few, ltb-false n (bytes_of form left) e)))
