-- Two far sides with envelopes of two lengths hear the same samples: each bin that the shorter one keeps stands in both.
use Prim.Native.Nat.{ℕ, ◌+◌, ◌-◌, ◌%◌, ◌≤◌, ◌<◌}
use mathlib.Core.Path.{◌≡◌, refl, sym, ◌∙◌, subst}
use mathlib.Core.Logic.{◌⊎◌, inl, inr}
use mathlib.Core.List.{List, [], ◌∷◌}
use native.Mathlib.Nat.{mod-lt, eq-or-lt_of_le}
use native.Mathlib.Omega.{arith}
use lib.Dec.{eqb}
use lib.ListN.{length, set, length-set}
use lib.Seq.{get_or-set_same, get_or-set_other}
use lib.Ieee.{Float, nan}
use Rattle.folds.specs.Sums.{at}
use Rattle.scan.specs.Bins.{envelope_len}
use Rattle.scan.specs.Blocks.{Heard, hear, hear_all, summed, level_of}
use Rattle.scan.specs.declared.Geometry.{Geometry}
use Rattle.scan.specs.declared.Far.{Far}
use Rattle.scan.proofs.Laws.{pick_both, other_slot}

pub record HeardPair (wide narrow : ℕ) (g : Geometry) (h k : Heard) : Type 0 where
  pub far : k.far ≡ h.far
  pub long : length h.envelope ≡ envelope_len wide g
  pub short : length k.envelope ≡ envelope_len narrow g
  pub bins : (j : ℕ) → j < h.far.next → h.far.next - envelope_len narrow g ≤ j → at k.envelope (j % envelope_len narrow g) ≡ at h.envelope (j % envelope_len wide g)

-- ---- a ring of l slots: the slot that is written, and any other that is kept

slot_written : (e : List Float) (n l : ℕ) (x : Float) → 0 < l → length e ≡ l → at (set e (n % l) x) (n % l) ≡ x
slot_written e n l x p q = get_or-set_same e (n % l) x nan (omega (arith, mod-lt n p))

slot_kept : (e : List Float) (j n l : ℕ) (x : Float) → j < n → n < j + l → at (set e (n % l) x) (j % l) ≡ at e (j % l)
slot_kept e j n l x a b = get_or-set_other e (n % l) (j % l) x nan (other_slot j n l a b)

-- ---- samples on both sides

module _ (wide narrow : ℕ) (less : narrow < wide) (g : Geometry) (some : 0 < g.frame) where
  hears_from : (f : Far) (e e' : List Float) (x : Float) → HeardPair wide narrow g (record { far = f; envelope = e }) (record { far = f; envelope = e' })
      → HeardPair wide narrow g (hear wide g (record { far = f; envelope = e }) x) (hear narrow g (record { far = f; envelope = e' }) x)
  unfolding hear
  hears_from f e e' x h =
      pick_both (HeardPair wide narrow g) (eqb (f.count + 1) g.decimation) _ _ _ _
      (λ t. record { far = refl; long = simp length-set h.long; short = simp length-set h.short; bins = λ j l o. slots j o (eq-or-lt_of_le (omega arith)) })
      (λ t. record { far = refl; long = h.long; short = h.short; bins = h.bins })
    where
      level : Float
      level = level_of g (summed f.sum x)

      slots : (j : ℕ) → f.next + 1 - envelope_len narrow g ≤ j → (j ≡ f.next) ⊎ (j < f.next)
          → at (set e' (f.next % envelope_len narrow g) (level_of g (summed f.sum x))) (j % envelope_len narrow g) ≡ at (set e (f.next % envelope_len wide g) (level_of g (summed f.sum x))) (j % envelope_len wide g)
      slots j o (inl p) = rw p (slot_written e' f.next (envelope_len narrow g) level (omega arith) h.short ∙ sym (slot_written e f.next (envelope_len wide g) level (omega arith) h.long))
      slots j o (inr l) = slot_kept e' j f.next (envelope_len narrow g) level l (omega arith) ∙ h.bins j l (omega arith) ∙ sym (slot_kept e j f.next (envelope_len wide g) level l (omega arith))

  hears : (h k : Heard) (x : Float) → HeardPair wide narrow g h k → HeardPair wide narrow g (hear wide g h x) (hear narrow g k x)
  hears h k x p =
      subst (λ (f : Far). HeardPair wide narrow g h (record { far = f; envelope = k.envelope }) → HeardPair wide narrow g (hear wide g h x) (hear narrow g (record { far = f; envelope = k.envelope }) x))
      (sym p.far) (hears_from h.far h.envelope k.envelope x) p

  pub hears_all : (xs : List Float) (h k : Heard) → HeardPair wide narrow g h k → HeardPair wide narrow g (hear_all wide g h xs) (hear_all narrow g k xs)
  unfolding hear_all
  hears_all [] h k p = p
  hears_all (x ∷ xs) h k p = hears_all xs (hear wide g h x) (hear narrow g k x) (hears h k x p)
