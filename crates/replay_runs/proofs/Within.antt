-- A turn uses no more bytes than are at hand, wherever the stream stands.
use Rattle.std.specs.Prelude.{Option, Some, None}
use Rattle.recording.specs.declared.Used.{Used}
use Prim.Native.Nat.{ℕ, ◌-◌, ◌≤◌, min}
use mathlib.Core.Path.{◌≡◌, refl}
use mathlib.Core.Bool.{true, true≢false}
use native.Mathlib.Omega.{arith}
use lib.Dec.{ltb}
use lib.ListN.{length}
use borrow.Author.Tests.{ltb-false}
use Rattle.answers.specs.Pick.{pick_case}
use Rattle.scan.specs.State.{Buffers}
use Rattle.recording.specs.Recording.{event_at}
use Rattle.recording.specs.Samples.{bytes_of, samples_in, admitted}
use Rattle.recording.specs.declared.Header.{Header}
use Rattle.recording.specs.declared.Event.{Event}
use Rattle.replay.specs.Events.{after_admission, stepped}
use Rattle.replay.specs.declared.Session.{Session}
use Rattle.replay_stream.specs.Stream.{Hand, short, Next, near_cut, near_turn, Need, NoSamples, FarSamples, NearSamples, need_of, awaits, handed, used_for, seen, entered, entry_turn, turn_at, turn}
use Rattle.replay_stream.specs.declared.Stage.{Stage}
use Rattle.replay_stream.specs.declared.Stage.TheVariants.{Opening, Events, Midway, Closed}
use Rattle.replay_stream.specs.declared.Place.{Place}
use Rattle.recording.proofs.Forms.{bytes_mono}
use Rattle.replay_stream.specs.declared.Bytes.{Bytes}
use Rattle.replay_stream.proofs.Entering.{taken}
use Rattle.replay_stream.proofs.Turning.{good_whole}
use Rattle.replay_runs.specs.Silences.{Inside}

abbrev pub Within : Hand → Bytes → Type 0
Within hand u = Inside hand.events.bytes hand.far.bytes hand.near.bytes u

module _ (h : Header) (hand : Hand) where
  abbrev W : Next → Type 0
  W t = Within hand t.used

  need_within : (need : Need) → 16 ≤ length hand.events.bytes → (used_for h.form need).far ≤ length hand.far.bytes → Within hand (used_for h.form need)
  need_within NoSamples m f = record { events = m; far = omega arith; near = omega arith }
  need_within (FarSamples count) m f = record { events = m; far = f; near = omega arith }
  need_within (NearSamples count first) m f = record { events = m; far = omega arith; near = omega arith }

  -- a play that ends uses nothing, and one that goes on was admitted
  event_within : (n : ℕ) (s : Session) (b : Buffers) (k : Event) → 16 ≤ length hand.events.bytes → (a : Option Used) → admitted h (seen h.form s.used hand) s.used k ≡ a
      → W (entered h.form n s (need_of (Some k)) (after_admission n s b k (handed h.form hand (need_of (Some k))) a))
  event_within n s b k m None q =
      pick_case W true _ _ (λ t. record { events = omega arith; far = omega arith; near = omega arith }) (λ t. absurd (true≢false t))
  event_within n s b k m (Some u) q =
      let p = after_admission n s b k (handed h.form hand (need_of (Some k))) (Some u) in
      pick_case W p.ends _ _
      (λ t. record { events = omega arith; far = omega arith; near = omega arith })
      (λ t. need_within (need_of (Some k)) m (taken n h s.used u hand k q).far_there)

  entry_within : (n : ℕ) (s : Session) (b : Buffers) (k : Option Event) → ((j : Event) → k ≡ Some j → 16 ≤ length hand.events.bytes) → W (entry_turn h n s b hand k)
  unfolding entry_turn stepped
  entry_within n s b None m =
      pick_case W (awaits h s.used hand (need_of None)) _ _
      (λ w. record { events = omega arith; far = omega arith; near = omega arith })
      (λ w. pick_case W true _ _ (λ t. record { events = omega arith; far = omega arith; near = omega arith }) (λ t. absurd (true≢false t)))
  entry_within n s b (Some k) m =
      pick_case W (awaits h s.used hand (need_of (Some k))) _ _
      (λ w. record { events = omega arith; far = omega arith; near = omega arith })
      (λ w. event_within n s b k (m k refl) (admitted h (seen h.form s.used hand) s.used k) refl)

  stage_within : (n : ℕ) (stage : Stage) (s : Session) (b : Buffers) → W (turn_at h n stage s b hand)
  unfolding near_turn
  stage_within n Opening s b = record { events = omega arith; far = omega arith; near = omega arith }
  stage_within n Events s b =
      pick_case W (ltb n h.events) _ _
      (λ m. pick_case W (short 16 hand.events) _ _
      (λ w. record { events = omega arith; far = omega arith; near = omega arith })
      (λ w. entry_within n s b (event_at hand.events.bytes 0) (good_whole hand.events.bytes)))
      (λ m. record { events = omega arith; far = omega arith; near = omega arith })
  stage_within n (Midway e index left) s b =
      pick_case W (ltb (min (length hand.near.bytes) (bytes_of h.form 4096)) (bytes_of h.form left)) _ _
      (λ w. record { events = omega arith; far = omega arith; near = omega arith })
      (λ w. record { events = omega arith; far = omega arith; near = omega (arith, ltb-false (min (length hand.near.bytes) (bytes_of h.form 4096)) (bytes_of h.form left) w, bytes_mono h.form (left - length (near_cut e s b (samples_in h.form hand.near.bytes left) index).left) left (omega arith)) })
  stage_within n Closed s b = record { events = omega arith; far = omega arith; near = omega arith }

  pub turn_within : (p : Place) (b : Buffers) → Within hand (turn h p b hand).used
  unfolding turn
  turn_within p b = stage_within p.number p.stage p.session b
