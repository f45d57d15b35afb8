-- The far side as it hears samples: its numbers stay in place and everything in it finite; and two far sides that agree on some blocks still do.
use Prim.Native.Nat.{ℕ, zero, suc, ◌+◌, ◌-◌, ◌*◌, ◌/◌, ◌%◌, ◌≤◌, ◌<◌}
use mathlib.Core.Path.{◌≡◌, refl, sym, ap, ◌∙◌, subst}
use mathlib.Core.Logic.{◌≢◌, ◌⊎◌, inl, inr}
use mathlib.Core.List.{List, [], ◌∷◌, ◌++◌}
use mathlib.Core.Bool.{true}
use native.Mathlib.Nat.{le-div_iff_mul-le, eq-or-lt_of_le, mul-add-div_right, div-eq_of_lt, add-zero}
use native.Mathlib.Omega.{arith}
use lib.Dec.{T, eqb}
use lib.ListN.{length, take, set, length-set}
use lib.Seq.{get_or-set_other}
use lib.Ieee.{Float, nan, binary32, fits}
use lib.Ieee.Scale.{finite}
use borrow.Author.Tests.{eqb-true, eqb-false}
use Rattle.answers.specs.Pick.{pick_case}
use Rattle.floats.specs.Functions.{magnitude}
use Rattle.floats.proofs.Levels.{AtMost, zero_at_most, sample_at_most, add_at_most, level_at_most}
use Rattle.folds.specs.Sums.{at, all_finite}
use Rattle.scan.specs.Bins.{envelope_len}
use Rattle.scan.specs.Blocks.{Heard, hear, hear_all, summed, level_of}
use Rattle.scan.specs.Streams.{AllF32}
use Rattle.scan.specs.declared.Geometry.{Geometry}
use Rattle.scan.specs.declared.Far.{Far}
use Rattle.scan.proofs.Laws.{pick_both, holds, both_left, both_right, other_slot, stored_alike, All, all_set}
use Rattle.scan.proofs.Masked.{filled, filled_nil, filled_none, filled_one, unheard_filled, masked}
use Rattle.scan.proofs.Settings.{Allowed, few, some}

-- ---- one far side

-- its numbers stand where the samples accepted put them, the running sum is one of as many magnitudes as the partial block has, every level is one of an f32
pub record HeardSound (g : Geometry) (h : Heard) : Type 0 where
  pub placed : h.far.accepted ≡ h.far.next * g.decimation + h.far.count
  pub partial : h.far.count < g.decimation
  pub sum : AtMost h.far.count h.far.sum
  pub levels : All (AtMost 1) h.envelope

-- a sum of n magnitudes, and one more
pub summed_at_most : (n : ℕ) (sum x : Float) → n < 192 → AtMost n sum → finite x ≡ true → T (fits binary32 x) → AtMost (n + 1) (summed sum x)
summed_at_most n sum x l h f t = add_at_most n 1 sum (magnitude x) (omega arith) h (sample_at_most x (holds (finite x) f) t)

-- the level of a block
pub block_level : (g : Geometry) → Allowed g → (n : ℕ) (sum : Float) → n ≤ g.decimation → AtMost n sum → AtMost 1 (level_of g sum)
block_level g a n sum l h = level_at_most n g.decimation sum l (some g a) (few g a) h

module _ (slack : ℕ) (g : Geometry) where
  hear_accepted : (h : Heard) (x : Float) → (hear slack g h x).far.accepted ≡ h.far.accepted + 1
  unfolding hear
  hear_accepted h x = pick_case (λ (z : Heard). z.far.accepted ≡ h.far.accepted + 1) (eqb (h.far.count + 1) g.decimation) _ _ (λ t. refl) (λ t. refl)

  hear_length : (h : Heard) (x : Float) → length (hear slack g h x).envelope ≡ length h.envelope
  unfolding hear
  hear_length h x = pick_case (λ (z : Heard). length z.envelope ≡ length h.envelope) (eqb (h.far.count + 1) g.decimation) _ _ (λ t. simp length-set) (λ t. refl)

  pub hear_all_accepted : (h : Heard) (xs : List Float) → (hear_all slack g h xs).far.accepted ≡ h.far.accepted + length xs
  unfolding hear_all
  hear_all_accepted h [] = omega arith
  hear_all_accepted h (x ∷ xs) = omega (arith, hear_all_accepted (hear slack g h x) xs, hear_accepted h x)

  pub hear_all_length : (h : Heard) (xs : List Float) → length (hear_all slack g h xs).envelope ≡ length h.envelope
  unfolding hear_all
  hear_all_length h [] = refl
  hear_all_length h (x ∷ xs) = hear_all_length (hear slack g h x) xs ∙ hear_length h x

  pub hear_all_append : (h : Heard) (xs ys : List Float) → hear_all slack g h (xs ++ ys) ≡ hear_all slack g (hear_all slack g h xs) ys
  unfolding hear_all
  hear_all_append h [] ys = refl
  hear_all_append h (x ∷ xs) ys = hear_all_append (hear slack g h x) xs ys

  module _ (a : Allowed g) where
    hear_sound : (h : Heard) (x : Float) → HeardSound g h → finite x ≡ true → T (fits binary32 x) → HeardSound g (hear slack g h x)
    unfolding hear
    hear_sound h x s f t =
        let l : h.far.count < 192 = omega (arith, few g a, s.partial) in
        let sum = summed_at_most h.far.count h.far.sum x l s.sum f t in
        pick_case (HeardSound g) (eqb (h.far.count + 1) g.decimation) _ _
        (λ e. record {
          placed = omega (arith, s.placed, eqb-true (h.far.count + 1) g.decimation e);
          partial = some g a;
          sum = zero_at_most;
          levels = all_set (AtMost 1) h.envelope _ (level_of g (summed h.far.sum x)) s.levels (block_level g a (h.far.count + 1) (summed h.far.sum x) (omega (arith, s.partial)) sum);
        })
        (λ e. record { placed = omega (arith, s.placed); partial = omega (arith, s.partial, eqb-false (h.far.count + 1) g.decimation e); sum = sum; levels = s.levels })

    pub hear_all_sound : (h : Heard) (xs : List Float) → HeardSound g h → all_finite xs ≡ true → AllF32 xs → HeardSound g (hear_all slack g h xs)
    unfolding hear_all all_finite
    hear_all_sound h [] s f t = s
    hear_all_sound h (x ∷ xs) s f t = hear_all_sound (hear slack g h x) xs (hear_sound h x s (both_left (finite x) (all_finite xs) f) t.0) (both_right (finite x) (all_finite xs) f) t.1

-- ---- two far sides

-- the same far numbers with another running sum
abbrev pub with_sum : Far → Float → Far
with_sum f sum = record { next = f.next; sum = sum; count = f.count; accepted = f.accepted }

-- `keeps` says of which blocks the samples are the same on both sides. The running sums are the same where their block is such a one, and so are the levels of all such bins that the envelope still holds.
pub record HeardAlike (slack : ℕ) (g : Geometry) (keeps : ℕ → Type 0) (h k : Heard) : Type 0 where
  pub numbers : k.far ≡ with_sum h.far k.far.sum
  pub sum : keeps h.far.next → k.far.sum ≡ h.far.sum
  pub lengths : length k.envelope ≡ length h.envelope
  pub bins : (j : ℕ) → keeps j → j < h.far.next → h.far.next ≤ j + envelope_len slack g → at k.envelope (j % envelope_len slack g) ≡ at h.envelope (j % envelope_len slack g)

-- samples numbered from n on: as many on both sides, and the same where their block is kept
abbrev pub SamplesAlike : Geometry → (ℕ → Type 0) → ℕ → List Float → List Float → Type 0
SamplesAlike g keeps n [] [] = Unit {0}
SamplesAlike g keeps n [] (y ∷ ys) = ⊥
SamplesAlike g keeps n (x ∷ xs) [] = ⊥
SamplesAlike g keeps n (x ∷ xs) (y ∷ ys) = (keeps (n / g.decimation) → y ≡ x) × SamplesAlike g keeps (n + 1) xs ys

module _ (g : Geometry) (keeps : ℕ → Type 0) where
  pub samples_length : (n : ℕ) (xs ys : List Float) → SamplesAlike g keeps n xs ys → length ys ≡ length xs
  samples_length n [] [] e = refl
  samples_length n [] (y ∷ ys) e = absurd e
  samples_length n (x ∷ xs) [] e = absurd e
  samples_length n (x ∷ xs) (y ∷ ys) e = ap suc (samples_length (n + 1) xs ys e.1)

  -- by their places
  pub samples_by : (n : ℕ) (xs ys : List Float) → length ys ≡ length xs → ((i : ℕ) → i < length xs → keeps ((n + i) / g.decimation) → at ys i ≡ at xs i) → SamplesAlike g keeps n xs ys
  samples_by n [] [] l h = tt
  samples_by n [] (y ∷ ys) l h = absurd (omega arith)
  samples_by n (x ∷ xs) [] l h = absurd (omega arith)
  samples_by n (x ∷ xs) (y ∷ ys) l h =
      (λ b. h 0 (omega arith) (rw (add-zero n) b), samples_by (n + 1) xs ys (omega arith) (λ i k b. h (suc i) (omega arith) (subst (λ (m : ℕ). keeps (m / g.decimation)) (omega arith) b)))

  pub samples_same : (n : ℕ) (xs : List Float) → SamplesAlike g keeps n xs xs
  samples_same n [] = tt
  samples_same n (x ∷ xs) = (λ b. refl, samples_same (n + 1) xs)

-- any value in the place of samples that are numbered below the block's first
pub filled_alike : (g : Geometry) (block : ℕ) → 0 < g.decimation → (z : Float) (xs : List Float) (m n : ℕ) → m ≤ block * g.decimation - n → SamplesAlike g (λ j. block ≤ j) n xs (filled z m xs)
filled_alike g block p z [] m n l = rw (filled_nil z m) tt
filled_alike g block p z (x ∷ xs) zero n l = rw (filled_none z (x ∷ xs)) (samples_same g (λ j. block ≤ j) n (x ∷ xs))
filled_alike g block p z (x ∷ xs) (suc m) n l =
    rw (filled_one z m x xs) (λ b. absurd (omega (arith, (le-div_iff_mul-le p).0 b)), filled_alike g block p z xs m (n + 1) (omega arith))

pub masked_alike : (g : Geometry) (block : ℕ) → 0 < g.decimation → (xs : List Float) (n : ℕ) → SamplesAlike g (λ j. block ≤ j) n xs (masked (block * g.decimation - n) xs)
masked_alike g block p xs n =
    unheard_filled (SamplesAlike g (λ j. block ≤ j) n xs) _ (all_finite (take (block * g.decimation - n) xs)) _ (λ z. filled_alike g block p z xs (block * g.decimation - n) n (omega arith))

-- the block under way is the next sample's
pub block_now : (g : Geometry) (h : Heard) → HeardSound g h → h.far.next ≡ h.far.accepted / g.decimation
block_now g h s =
    sym (ap (λ (n : ℕ). n / g.decimation) s.placed ∙ mul-add-div_right (omega (arith, s.partial)) h.far.next h.far.count ∙ ap (λ (n : ℕ). h.far.next + n) (div-eq_of_lt s.partial) ∙ add-zero h.far.next)

module _ (slack : ℕ) (g : Geometry) (keeps : ℕ → Type 0) where
  -- one sample on both sides: the same one, where its block is kept
  hears_from : (f : Far) (e : List Float) (sum : Float) (e' : List Float) (x y : Float) → (keeps f.next → y ≡ x)
      → HeardAlike slack g keeps (record { far = f; envelope = e }) (record { far = with_sum f sum; envelope = e' })
      → HeardAlike slack g keeps (hear slack g (record { far = f; envelope = e }) x) (hear slack g (record { far = with_sum f sum; envelope = e' }) y)
  unfolding hear
  hears_from f e sum e' x y same h =
      pick_both (HeardAlike slack g keeps) (eqb (f.count + 1) g.decimation) _ _ _ _
      (λ t. record { numbers = refl; sum = λ b. refl; lengths = simp length-set h.lengths; bins = λ j b l n. slots j b n (eq-or-lt_of_le (omega arith)) })
      (λ t. record { numbers = refl; sum = sums; lengths = h.lengths; bins = h.bins })
    where
      sums : keeps f.next → summed sum y ≡ summed f.sum x
      sums b = let p : sum ≡ f.sum = h.sum b in let q : y ≡ x = same b in cc

      slots : (j : ℕ) → keeps j → f.next + 1 ≤ j + envelope_len slack g → (j ≡ f.next) ⊎ (j < f.next)
          → at (set e' (f.next % envelope_len slack g) (level_of g (summed sum y))) (j % envelope_len slack g)
          ≡ at (set e (f.next % envelope_len slack g) (level_of g (summed f.sum x))) (j % envelope_len slack g)
      slots j b n (inl p) = rw (p, sums (subst keeps p b)) (stored_alike e' e (f.next % envelope_len slack g) (level_of g (summed f.sum x)) h.lengths)
      slots j b n (inr l) =
          let d : j % envelope_len slack g ≢ f.next % envelope_len slack g = other_slot j f.next (envelope_len slack g) l (omega arith) in
          get_or-set_other e' _ (j % envelope_len slack g) (level_of g (summed sum y)) nan d ∙ h.bins j b l (omega arith) ∙ sym (get_or-set_other e _ (j % envelope_len slack g) (level_of g (summed f.sum x)) nan d)

  hears : (h k : Heard) (x y : Float) → (keeps h.far.next → y ≡ x) → HeardAlike slack g keeps h k → HeardAlike slack g keeps (hear slack g h x) (hear slack g k y)
  hears h k x y same p =
      subst (λ (f : Far). HeardAlike slack g keeps h (record { far = f; envelope = k.envelope }) → HeardAlike slack g keeps (hear slack g h x) (hear slack g (record { far = f; envelope = k.envelope }) y))
      (sym p.numbers) (hears_from h.far h.envelope k.far.sum k.envelope x y same) p

  -- a push on each side
  pub hears_all : Allowed g → (xs ys : List Float) (h k : Heard) → SamplesAlike g keeps h.far.accepted xs ys → all_finite xs ≡ true → AllF32 xs → HeardSound g h → HeardAlike slack g keeps h k
      → HeardAlike slack g keeps (hear_all slack g h xs) (hear_all slack g k ys)
  unfolding hear_all all_finite
  hears_all a [] [] h k e f t s p = p
  hears_all a [] (y ∷ ys) h k e f t s p = absurd e
  hears_all a (x ∷ xs) [] h k e f t s p = absurd e
  hears_all a (x ∷ xs) (y ∷ ys) h k e f t s p =
      hears_all a xs ys (hear slack g h x) (hear slack g k y) (rw (hear_accepted slack g h x) e.1) (both_right (finite x) (all_finite xs) f) t.1
      (hear_sound slack g a h x s (both_left (finite x) (all_finite xs) f) t.0) (hears h k x y (λ b. e.0 (subst keeps (block_now g h s) b)) p)
