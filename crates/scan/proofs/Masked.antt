-- Samples that nobody may look at, and what stands in their place: as many, finite where they are, and silent.
use Prim.Native.Nat.{min, suc, zero, ℕ}
use Rattle.answers.specs.Pick.{both, pick}
use Rattle.scan.proofs.Laws.{all_finite_lem, all_zeros_lem, both_left, finite_append, length_table, length_zeros, table_front}
use Rattle.scan.specs.Streams.{AllF32, unheard}
use Rattle.floats.specs.Functions.{zero64}
use Rattle.folds.specs.Sums.{all_finite, table, zeros}
use lib.Dec.{T}
use lib.Ieee.{Float, binary32, fits, nan}
use lib.Ieee.Fits.{nan-fits}
use lib.Ieee.Scale.{finite}
use lib.ListN.{drop, length, length-append, length-drop, length-take, take, take-append-drop}
use lib.Seq.{drop-nil}
use mathlib.Core.Bool.{Bool, false, true}
use mathlib.Core.List.{List, [], ◌++◌, ◌∷◌}
use mathlib.Core.Path.{◌∙◌, ◌≡◌, ap, refl, sym}
use native.Mathlib.Omega.{arith}

-- ---- samples of the type f32

pub f32_append : (xs ys : List Float) → AllF32 xs → AllF32 ys → AllF32 (xs ++ ys)
f32_append [] ys h k = k
f32_append (x ∷ xs) ys h k = (h.0, f32_append xs ys h.1 k)

f32_table : (x : Float) (n : ℕ) → T (fits binary32 x) → AllF32 (table (λ i. x) n)
unfolding table
f32_table x zero h = tt
f32_table x (suc n) h = f32_append (table (λ i. x) n) (x ∷ []) (f32_table x n h) (h, tt)

f32_drop : (n : ℕ) (xs : List Float) → AllF32 xs → AllF32 (drop n xs)
f32_drop zero xs h = h
f32_drop (suc n) [] h = h
f32_drop (suc n) (x ∷ xs) h = f32_drop n xs h.1

-- ---- silence

-- one value in the place of each of the first n
abbrev pub filled : Float → ℕ → List Float → List Float
filled z n xs = table (λ i. z) (min n (length xs)) ++ drop n xs

pub filled_nil : (z : Float) (n : ℕ) → filled z n [] ≡ []
unfolding table
filled_nil z n = let e : min n 0 ≡ 0 = omega arith in ap (λ (m : ℕ). table (λ i. z) m ++ drop n []) e ∙ drop-nil n

pub filled_none : (z : Float) (xs : List Float) → filled z 0 xs ≡ xs
unfolding table
filled_none z xs = let e : min 0 (length xs) ≡ 0 = omega arith in ap (λ (m : ℕ). table (λ i. z) m ++ xs) e

pub filled_one : (z : Float) (n : ℕ) (x : Float) (xs : List Float) → filled z (suc n) (x ∷ xs) ≡ z ∷ filled z n xs
filled_one z n x xs =
    let e : min (suc n) (suc (length xs)) ≡ suc (min n (length xs)) = omega arith in
    ap (λ (m : ℕ). table (λ i. z) m ++ drop n xs) e ∙ ap (λ (l : List Float). l ++ drop n xs) (table_front z (min n (length xs)))

-- n samples of silence in the place of the first n
abbrev pub muted : ℕ → List Float → List Float
muted n xs = zeros (min n (length xs)) ++ drop n xs

-- ---- samples that nobody may look at

-- they are finite where those in whose place they stand are
unheard_finite : (xs : List Float) → all_finite (unheard (length xs) (all_finite xs)) ≡ all_finite xs
unheard_finite [] = (unfold all_finite zeros table in refl)
unheard_finite (x ∷ xs) = go (all_finite (x ∷ xs))
  where
    go : (fine : Bool) → all_finite (unheard (suc (length xs)) fine) ≡ fine
    go true = all_finite_lem (λ z. finite z ≡ true) _ (λ z e. e) (all_zeros_lem _ (suc (length xs)) refl)
    go false = ap all_finite (table_front nan (length xs)) ∙ (unfold all_finite pick in refl)

length_unheard : (n : ℕ) (fine : Bool) → length (unheard n fine) ≡ n
length_unheard n true = length_zeros n
length_unheard n false = length_table _ n

pub zeros_f32 : (n : ℕ) → AllF32 (zeros n)
unfolding zeros
zeros_f32 n = f32_table zero64 n (unfold fits in tt)

unheard_f32 : (n : ℕ) (fine : Bool) → AllF32 (unheard n fine)
unheard_f32 n true = zeros_f32 n
unheard_f32 n false = f32_table nan n (nan-fits binary32)

-- they are one value, as often
pub unheard_filled : (P : List Float → Type 0) (n : ℕ) (fine : Bool) (xs : List Float) → ((z : Float) → P (table (λ i. z) n ++ xs)) → P (unheard n fine ++ xs)
unfolding zeros
unheard_filled P n true xs h = h zero64
unheard_filled P n false xs h = h nan

-- the first n masked: silent, or NaNs where one of them is not finite
abbrev pub masked : ℕ → List Float → List Float
masked n xs = unheard (min n (length xs)) (all_finite (take n xs)) ++ drop n xs

module _ (n : ℕ) (xs : List Float) where
  abbrev front : List Float
  front = unheard (min n (length xs)) (all_finite (take n xs))

  split_finite : both (all_finite (take n xs)) (all_finite (drop n xs)) ≡ all_finite xs
  split_finite = sym (finite_append (take n xs) (drop n xs)) ∙ ap all_finite (take-append-drop n xs)

  -- what a push is judged by stays
  pub masked_length : length (masked n xs) ≡ length xs
  masked_length = omega (arith, length-append front (drop n xs), length_unheard (min n (length xs)) (all_finite (take n xs)), length-drop n xs)

  pub masked_finite : all_finite (masked n xs) ≡ all_finite xs
  masked_finite =
      finite_append front (drop n xs)
      ∙ ap (λ (t : Bool). both t (all_finite (drop n xs))) (ap (λ (m : ℕ). all_finite (unheard m (all_finite (take n xs)))) (sym (length-take n xs)) ∙ unheard_finite (take n xs))
      ∙ split_finite

  pub masked_f32 : AllF32 xs → AllF32 (masked n xs)
  masked_f32 t = f32_append front (drop n xs) (unheard_f32 (min n (length xs)) (all_finite (take n xs))) (f32_drop n xs t)

  pub take_finite : all_finite xs ≡ true → all_finite (take n xs) ≡ true
  take_finite f = both_left (all_finite (take n xs)) (all_finite (drop n xs)) (split_finite ∙ f)

  -- of finite samples the first n are silent
  pub masked_muted : all_finite xs ≡ true → masked n xs ≡ muted n xs
  masked_muted f = ap (λ (t : Bool). unheard (min n (length xs)) t ++ drop n xs) (take_finite f)
