-- A log with silence in the place of far blocks that no frame reads is answered as before: the laws of Alike, with the blocks kept that some frame reads.
use Prim.Native.Nat.{ℕ, ◌+◌, ◌/◌}
use mathlib.Core.Path.{◌≡◌, refl, sym, ap, ◌∙◌, subst}
use mathlib.Core.List.{List, [], ◌∷◌}
use mathlib.Core.Bool.{Bool, true, not}
use lib.Dec.{T, eqb}
use lib.Ieee.{Float, binary32, fits}
use lib.Ieee.Scale.{finite}
use borrow.Author.Tests.{lt-ltb, le-leb, eq-eqb}
use Rattle.answers.specs.Pick.{pick, both, pick_true, pick_case}
use Rattle.floats.specs.Functions.{zero64}
use Rattle.folds.specs.Sums.{all_finite}
use Rattle.scan.specs.State.{World}
use Rattle.scan.specs.Steps.{Deed, near, score, rearm, discard, reset, ask, Call, far, deed, called}
use Rattle.scan.specs.Streams.{Item, own, foreign, AllF32}
use Rattle.scan.specs.Compact.{frame_reads, deed_reads, call_reads, log_reads, silenced, compact_call, part_after, compacted, F32Deed, F32Call, F32Log, Compacts}
use Rattle.scan.specs.declared.Geometry.{Geometry}
use Rattle.scan.proofs.Laws.{both_and, both_left, both_right, either_or}
use Rattle.scan.proofs.Settings.{allowed}
use Rattle.scan.proofs.Hears.{SamplesAlike, samples_same}
use Rattle.scan.proofs.Sound.{Sound}
use Rattle.scan.proofs.Fresh.{began, fresh_sound}
use Rattle.scan.proofs.Alike.{alike_same, FrameKept, DeedKept, PushesAlike, CallsAlike, ItemsAlike, done, calls, first, second, streams_alike}

-- ---- silenced samples

module _ (g : Geometry) (keeps : ℕ → Bool) where
  abbrev Kept : ℕ → Type 0
  Kept j = keeps j ≡ true

  silenced_alike : (n : ℕ) (xs : List Float) → SamplesAlike g Kept n xs (silenced g keeps n xs)
  silenced_alike n [] = tt
  silenced_alike n (x ∷ xs) = (λ k. pick_true (keeps (n / g.decimation)) x zero64 k, silenced_alike (n + 1) xs)

  silenced_finite : (n : ℕ) (xs : List Float) → all_finite xs ≡ true → all_finite (silenced g keeps n xs) ≡ true
  unfolding all_finite
  silenced_finite n [] f = refl
  silenced_finite n (x ∷ xs) f =
      both_and _ _ (pick_case (λ (z : Float). finite z ≡ true) (keeps (n / g.decimation)) x zero64 (λ t. both_left (finite x) (all_finite xs) f) (λ t. refl)) (silenced_finite (n + 1) xs (both_right (finite x) (all_finite xs) f))

  silenced_f32 : (n : ℕ) (xs : List Float) → AllF32 xs → AllF32 (silenced g keeps n xs)
  silenced_f32 n [] t = tt
  silenced_f32 n (x ∷ xs) t = (pick_case (λ (z : Float). T (fits binary32 z)) (keeps (n / g.decimation)) x zero64 (λ k. t.0) (λ k. (unfold fits in tt)), silenced_f32 (n + 1) xs t.1)

  push_compact : (n : ℕ) (xs : List Float) → AllF32 xs → PushesAlike g Kept n xs (pick (all_finite xs) (silenced g keeps n xs) xs)
  push_compact n xs t =
      pick_case (PushesAlike g Kept n xs) (all_finite xs) (silenced g keeps n xs) xs
      (λ f. record { samples = silenced_alike n xs; finite = silenced_finite n xs f ∙ sym f; f32 = t; f32' = silenced_f32 n xs t })
      (λ f. record { samples = samples_same g Kept n xs; finite = refl; f32 = t; f32' = t })

-- ---- a call

module _ (slack : ℕ) (keeps : ℕ → Bool) where
  abbrev Keeps : ℕ → Type 0
  Keeps j = keeps j ≡ true

  frame_compact : (w : World) → ((j : ℕ) → frame_reads slack w j ≡ true → keeps j ≡ true) → FrameKept slack Keeps w
  frame_compact w h f u a j l n m =
      h j (both_and _ _ f (both_and _ _ (ap not u) (both_and _ _ (ap not a) (both_and _ _ (le-leb _ j l) (both_and _ _ (lt-ltb j _ n) (lt-ltb j _ m))))))

  deed_compact : (w : World) (d : Deed) → F32Deed d → ((j : ℕ) → deed_reads slack w d j ≡ true → keeps j ≡ true) → DeedKept slack Keeps w d
  deed_compact w (near x index) t h = t
  deed_compact w score t h = frame_compact w h
  deed_compact w rearm t h = tt
  deed_compact w discard t h = tt
  deed_compact w reset t h = tt
  deed_compact w (ask r) t h = tt

  call_compact : (w : World) (c : Call) → F32Call c → ((j : ℕ) → call_reads slack w c j ≡ true → keeps j ≡ true) → CallsAlike slack Keeps w c (compact_call keeps w c)
  call_compact w (far xs) t h = push_compact w.scan.geometry keeps w.scan.far.accepted xs t
  call_compact w (deed d) t h = (refl, deed_compact w d t h)

-- ---- a log

items_compact : (slack : ℕ) (keeps : ℕ → ℕ → Bool) (items : List Item) (w : World) (p : ℕ) → F32Log items → ((q j : ℕ) → log_reads slack w p items q j ≡ true → keeps q j ≡ true)
    → ItemsAlike slack (λ q j. keeps q j ≡ true) p w items (compacted slack keeps w p items)
unfolding log_reads compacted
items_compact slack keeps [] w p t h = done
items_compact slack keeps (own c ∷ items) w p t h =
    calls (call_compact slack (keeps p) w c t.0 (λ j r. h p j (pick_true (both (eqb p p) (call_reads slack w c j)) true _ (both_and _ _ (eq-eqb p p refl) r))))
    (items_compact slack keeps items (called slack w c).world (part_after slack w c p) t.1 (λ q j r. h q j (either_or (both (eqb p q) (call_reads slack w c j)) _ (λ e. r))))
items_compact slack keeps (foreign v c ∷ items) w p t h = first (second (items_compact slack keeps items w p t h))

-- ---- the statement

pub compacts : Compacts
compacts slack rate ceiling w items b t keeps h =
    let o = began slack rate ceiling w b in
    let s : Sound slack w = subst (Sound slack) (sym o.is) (fresh_sound slack _ w.buffers (allowed rate ceiling o.inside)) in
    (streams_alike slack (λ q j. keeps q j ≡ true) 0 w w items (compacted slack keeps w 0 items) (alike_same slack _ w) s s (items_compact slack keeps items w 0 t h)).responses
