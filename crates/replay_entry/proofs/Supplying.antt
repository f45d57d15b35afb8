-- Whether an event's samples are at hand: by the total, by the bytes, by the input's end.
use Prim.Native.Nat.{ℕ, ◌+◌, ◌≤◌, ◌<◌}
use mathlib.Core.Path.{◌≡◌, refl, ap, ◌∙◌}
use mathlib.Core.Bool.{Bool, true, false, not}
use native.Mathlib.Omega.{arith}
use lib.Dec.{leb, ltb}
use lib.ListN.{length}
use borrow.Author.Tests.{le-leb, lt-leb, lt-ltb, le-ltb}
use Rattle.answers.specs.Pick.{pick, both}
use Rattle.recording.specs.Samples.{bytes_of}
use Rattle.recording.specs.declared.Form.{Form}
use Rattle.replay_stream.specs.Stream.{Piece}
use Rattle.replay_entry.specs.Supplies.{supply_of}
use Rattle.replay_entry.specs.declared.Supply.{Supply}
use Rattle.replay_entry.specs.declared.Supply.TheVariants as supply

abbrev by : Bool → Bool → Bool → Bool → Supply
by within ended short there = pick (both within (both (not ended) short)) supply.Awaited (pick (both within there) supply.AtHand supply.Lacking)

-- ---- forwards, for the code

module _ (form : Form) (used total count : ℕ) (p : Piece) where
  abbrev answer : Supply
  answer = supply_of form used total count p

  tests : (w s t : Bool) → leb (used + count) total ≡ w → ltb (length p.bytes) (bytes_of form count) ≡ s → leb (bytes_of form (used + count)) (bytes_of form used + length p.bytes) ≡ t → answer ≡ by w p.ended s t
  unfolding supply_of
  tests w s t a b c = rw (a, b, c)

  pub passes_total : total < used + count → answer ≡ supply.Lacking
  unfolding pick
  passes_total m = tests false _ _ (lt-leb (used + count) total m) refl refl

  module _ (within : used + count ≤ total) where
    pub at_hand_lem : bytes_of form count ≤ length p.bytes → answer ≡ supply.AtHand
    unfolding pick
    at_hand_lem m =
        tests true false true (le-leb (used + count) total within) (le-ltb (length p.bytes) (bytes_of form count) m) (le-leb (bytes_of form (used + count)) (bytes_of form used + length p.bytes) (omega arith))
        ∙ go p.ended
      where
        go : (e : Bool) → by true e false true ≡ supply.AtHand
        go true = refl
        go false = refl

    module _ (few : length p.bytes < bytes_of form count) where
      is : (e : Bool) → p.ended ≡ e → answer ≡ by true e true false
      is e q =
          tests true true false (le-leb (used + count) total within) (lt-ltb (length p.bytes) (bytes_of form count) few) (lt-leb (bytes_of form (used + count)) (bytes_of form used + length p.bytes) (omega arith))
          ∙ ap (λ (x : Bool). by true x true false) q

      pub has_ended : p.ended ≡ true → answer ≡ supply.Lacking
      unfolding pick
      has_ended q = is true q

      pub is_awaited : p.ended ≡ false → answer ≡ supply.Awaited
      unfolding pick
      is_awaited q = is false q

-- ---- backwards, for what follows

pub of_awaited : (t u : Bool) → pick t supply.Awaited (pick u supply.AtHand supply.Lacking) ≡ supply.Awaited → t ≡ true
unfolding pick
of_awaited true u e = refl
of_awaited false true e = let z : ◌≡◌ {A = ℕ} 0 1 = cc in absurd (omega (arith, z))
of_awaited false false e = let z : ◌≡◌ {A = ℕ} 0 1 = cc in absurd (omega (arith, z))

pub of_at_hand : (t u : Bool) → pick t supply.Awaited (pick u supply.AtHand supply.Lacking) ≡ supply.AtHand → (t ≡ false) × (u ≡ true)
unfolding pick
of_at_hand true u e = let z : ◌≡◌ {A = ℕ} 0 1 = cc in absurd (omega (arith, z))
of_at_hand false true e = (refl, refl)
of_at_hand false false e = let z : ◌≡◌ {A = ℕ} 0 1 = cc in absurd (omega (arith, z))

pub of_lacking : (t u : Bool) → pick t supply.Awaited (pick u supply.AtHand supply.Lacking) ≡ supply.Lacking → (t ≡ false) × (u ≡ false)
unfolding pick
of_lacking true u e = let z : ◌≡◌ {A = ℕ} 0 1 = cc in absurd (omega (arith, z))
of_lacking false true e = let z : ◌≡◌ {A = ℕ} 0 1 = cc in absurd (omega (arith, z))
of_lacking false false e = (refl, refl)
