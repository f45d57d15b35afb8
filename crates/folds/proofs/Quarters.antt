-- Four values tested at once: a sum that is finite had finite parts.
use Rattle.std.proofs.Common.{◌≡◌, ℕ, zero, suc, ◌+◌, ◌-◌, ◌<◌, ◌≤◌, Bool, true, false, List, length, take, drop, sym, refl, ap, ◌∙◌, subst, inl, inr, add-one, arith, length-drop, take_all}
use mathlib.Core.Bool.{false≢true}
use lib.Ieee.{Float, nan, inf, fin, Format, binary32, add}
use lib.Ieee.Scale.{finite}
use Rattle.answers.specs.Pick.{pick}
use Rattle.floats.proofs.Compare.{le_or_lt}
use Rattle.folds.specs.Sums.{all_finite, at}
use Rattle.folds.proofs.Finite.{next}

-- ---- one sum

pub sum_finite : (f : Format) (x y : Float) → finite (add f x y) ≡ true → (finite x ≡ true) × (finite y ≡ true)
unfolding add
sum_finite f nan y h = absurd (false≢true h)
sum_finite f (inf s) nan h = absurd (false≢true h)
sum_finite f (inf true) (inf true) h = absurd (false≢true h)
sum_finite f (inf true) (inf false) h = absurd (false≢true h)
sum_finite f (inf false) (inf true) h = absurd (false≢true h)
sum_finite f (inf false) (inf false) h = absurd (false≢true h)
sum_finite f (inf s) (fin t m e) h = absurd (false≢true h)
sum_finite f (fin s m e) nan h = absurd (false≢true h)
sum_finite f (fin s m e) (inf t) h = absurd (false≢true h)
sum_finite f (fin s m e) (fin t n d) h = (refl, refl)

-- ---- the loop

-- the values at j in each quarter
pub record Four (xs : List Float) (q j : ℕ) : Type 0 where
  pub first : finite (at xs j) ≡ true
  pub second : finite (at xs (q + j)) ≡ true
  pub third : finite (at xs (q + q + j)) ≡ true
  pub fourth : finite (at xs (q + q + q + j)) ≡ true

abbrev pub Passed : List Float → ℕ → ℕ → Bool → Type 0
Passed xs q i fine = fine ≡ true → (j : ℕ) → j < i → Four xs q j

pub none_passed : (xs : List Float) (q : ℕ) → Passed xs q 0 true
none_passed xs q t j l = absurd (omega arith)

four : (xs : List Float) (q j : ℕ) → finite (add binary32 (add binary32 (add binary32 (at xs j) (at xs (q + j))) (at xs (q + q + j))) (at xs (q + q + q + j))) ≡ true → Four xs q j
four xs q j h =
    let three = sum_finite binary32 (add binary32 (add binary32 (at xs j) (at xs (q + j))) (at xs (q + q + j))) (at xs (q + q + q + j)) h in
    let two = sum_finite binary32 (add binary32 (at xs j) (at xs (q + j))) (at xs (q + q + j)) three.0 in
    let one = sum_finite binary32 (at xs j) (at xs (q + j)) two.0 in
    record { first = one.0; second = one.1; third = two.1; fourth = three.1 }

pub passes : (xs : List Float) (q i : ℕ) (fine : Bool) → finite (add binary32 (add binary32 (add binary32 (at xs i) (at xs (q + i))) (at xs (q + q + i))) (at xs (q + q + q + i))) ≡ true → Passed xs q i fine → Passed xs q (i + 1) fine
passes xs q i fine h p t j l =
    elim (le_or_lt i j) [
      | inl e ↦ subst (Four xs q) (omega arith) (four xs q i h)
      | inr s ↦ p t j s
    ]

pub fails : (xs : List Float) (q i : ℕ) → Passed xs q i false
fails xs q i t = absurd (false≢true t)

-- ---- all of them

pub all_quarters : (xs : List Float) (q : ℕ) → ((j : ℕ) → j < q → Four xs q j) → (j : ℕ) → j < q + q + q + q → finite (at xs j) ≡ true
all_quarters xs q f j l =
    elim (le_or_lt q j) [
      | inr a ↦ (f j a).first
      | inl b ↦
          elim (le_or_lt (q + q) j) [
            | inr a ↦ subst (λ k. finite (at xs k) ≡ true) (omega arith) (f (j - q) (omega arith)).second
            | inl c ↦
                elim (le_or_lt (q + q + q) j) [
                  | inr a ↦ subst (λ k. finite (at xs k) ≡ true) (omega arith) (f (j - (q + q)) (omega arith)).third
                  | inl d ↦ subst (λ k. finite (at xs k) ≡ true) (omega arith) (f (j - (q + q + q)) (omega arith)).fourth
                ]
          ]
    ]

-- where the first n are finite the rest decides
pub rest_decides : (xs : List Float) (n : ℕ) → n ≤ length xs → ((j : ℕ) → j < n → finite (at xs j) ≡ true) → all_finite (drop n xs) ≡ all_finite xs
unfolding pick
rest_decides xs zero h f = refl
rest_decides xs (suc n) h f =
    let step = next xs n (omega arith) in
    let same : all_finite (drop n xs) ≡ all_finite (drop (suc n) xs) = rw (add-one, f n (omega arith)) at step in
    sym same ∙ rest_decides xs n (omega arith) (λ j l. f j (omega arith))

-- the rest as it is lent
pub rest_decides_lent : (xs : List Float) (n : ℕ) → n ≤ length xs → ((j : ℕ) → j < n → finite (at xs j) ≡ true) → all_finite (take (length xs - n) (drop n xs)) ≡ all_finite xs
rest_decides_lent xs n h f =
    let whole : length (drop n xs) ≤ length xs - n = simp length-drop (omega arith) in
    ap all_finite (take_all (length xs - n) (drop n xs) whole) ∙ rest_decides xs n h f
