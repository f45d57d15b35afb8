-- Each push, refused and not, with the refusal number n that the code found.
use Prim.Native.Nat.{ℕ}
use mathlib.Core.Path.{◌≡◌, refl}
use mathlib.Core.List.{List}
use mathlib.Core.Bool.{Bool, true, false}
use lib.Ieee.{Float}
use Rattle.scan.specs.State.{finished}
use Rattle.scan.specs.Blocks.{hear_all, gather, dropped, held_at}
use Rattle.scan.specs.Calls.{changed_by, with_near, FarPush, far_refusal, heard_by, pushed_far, near_refusal, untaken, taken_by, pushed_near}
use Rattle.answers.specs.declared.Change.TheVariants as change
use Rattle.scan.specs.declared.Taking.TheVariants as taking
use Rattle.scan.specs.declared.Scan.{Scan}
use Rattle.scan_calls.proofs.Chains.{yes, no, turned_down, accepted}

module _ (slack : ℕ) (s : Scan) (envelope xs : List Float) {n : ℕ} (is : n ≡ far_refusal slack s envelope xs) where
  pub not_heard : (n ≡ 0 → ⊥) → ◌≡◌ {A = FarPush} (record { changed = changed_by (change.Refused n) s; envelope = envelope }) (pushed_far slack s envelope xs)
  unfolding pushed_far
  not_heard h = turned_down is _ h (rw is)

  pub is_heard : n ≡ 0 → heard_by s (hear_all slack s.geometry (record { far = s.far; envelope = envelope }) xs) ≡ pushed_far slack s envelope xs
  unfolding pushed_far
  is_heard z = accepted is _ z refl

module _ (s : Scan) (levels : List Float) (x : Float) (index : ℕ) {n : ℕ} (is : n ≡ near_refusal s levels x index) where
  pub not_taken : (n ≡ 0 → ⊥) → untaken s levels (taking.Refused n) ≡ pushed_near s levels x index
  unfolding pushed_near
  not_taken h = turned_down is _ h (rw is)

  module _ (z : n ≡ 0) {over : Bool} (ends : over ≡ finished s.verdict) where
    pub is_ignored : over ≡ true → untaken s levels taking.Ignored ≡ pushed_near s levels x index
    unfolding pushed_near
    is_ignored h = accepted is _ z (yes ends _ h refl)

    module _ (unfinished : over ≡ false) {drops : Bool} (drop : drops ≡ dropped s.geometry (held_at s.near index) index) where
      pub is_dropped : drops ≡ true → untaken (with_near s (held_at s.near index)) levels taking.Dropped ≡ pushed_near s levels x index
      unfolding pushed_near
      is_dropped h = accepted is _ z (no ends _ unfinished (yes drop _ h refl))

      pub is_taken : drops ≡ false → taken_by s (gather s.geometry (record { near = held_at s.near index; levels = levels }) x index) ≡ pushed_near s levels x index
      unfolding pushed_near
      is_taken h = accepted is _ z (no ends _ unfinished (no drop _ h refl))
