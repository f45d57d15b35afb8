-- How large a rounded result can get, and how small a divisor: enough to know that no sum, product, quotient or root of the scoring overflows.
use Prim.Native.Nat.{ℕ, zero, suc, ◌+◌, ◌-◌, ◌*◌, ◌^◌, ◌≤◌, ◌<◌, Ordering}
use mathlib.Core.Path.{◌≡◌, refl, sym, ap, ◌∙◌, subst}
use mathlib.Core.Logic.{inl, inr}
use mathlib.Core.Bool.{Bool, true, false, not, ◌&&◌, ◌||◌, cond, beq, true≢false}
use native.Mathlib.Nat.{le_trans, le_of_eq, lt_of_le_of_lt, lt_of_lt_of_le, mul_assoc, mul_comm, mul_right_comm, one-mul, zero-mul, mul-le-mul, mul-le-mul_left, mul-le-mul_right, mul-lt-mul_of_pos_right, le_of_mul-le-mul_right, mul-pos, add-le-add, pow-succ', zero-lt-suc}
use native.Mathlib.Numerals.{add-one}
use native.Mathlib.Omega.{arith}
use lib.Dec.{T, ltb, eqb, eqb-suc-zero, lit<, lit≤}
use lib.Pow.{pow-add, pow_pos, pow_mono, shl_lt}
use lib.IntN.{ℤ, negsuc}
use borrow.Author.Tests.{ltb-false}
use lib.Ieee.{Float, nan, inf, fin, binary64, low, up, down, round, add, sum, sub, neg, mul, div, unlike, le, lt, eq, of_bits, of_int}
use lib.Ieee.Scale.{finite}
use lib.Ieee.Fits.{up_pos, down_pos}
use lib.Ieee.Exact.{HasValue}
use Rattle.folds.specs.Sums.{upto}
use Rattle.scan.specs.Scoring.{energy_floor}
use Rattle.floats.specs.Rounding.{Held, Even, Quantity, NotAbove, NotBelow, Nearest, Rounded, ratio, root_of}
use Rattle.floats.proofs.Compare.{le_or_lt, compare_lt, compare_gt}
use Rattle.floats.specs.Functions.{root, whole}
use Rattle.floats.proofs.Levels.{AtMost}
use Rattle.floats.proofs.Fractions.{round_rounded}
use Rattle.floats.proofs.SquareRoots.{square_lt, root_row}

-- ---- the nearest value lies on the side of every value that the quantity lies on

nearest_at_most : (x : Quantity) (g v : ℕ) → Nearest binary64 x g → Held binary64 v → ((h : ℕ) → v + v < h → x h ≡ Ordering.lt) → g ≤ v
nearest_at_most x g v n held below = elim (le_or_lt g v) [
  | inl h ↦ h
  | inr l ↦ absurd (subst (λ (o : Ordering). NotBelow o (Even binary64 g)) (below (g + v) (omega arith)) (n.below v held l))
]

nearest_at_least : (x : Quantity) (g v : ℕ) → Nearest binary64 x g → Held binary64 v → ((h : ℕ) → h < v + v → x h ≡ Ordering.gt) → v ≤ g
nearest_at_least x g v n held above = elim (le_or_lt v g) [
  | inl h ↦ h
  | inr l ↦ absurd (subst (λ (o : Ordering). NotAbove o (Even binary64 g)) (above (g + v) (omega arith)) (n.above v held l))
]

-- ---- at most n x 2 ^ k in size

abbrev pub Size : ℕ → ℕ → Float → Type 0
Size n k nan = ⊥
Size n k (inf s) = ⊥
Size n k (fin s m e) = m * up e ≤ n * 2 ^ k * down e

-- the bounds that are used: n of at most 14 digits, and far from an overflow
pub record Ample (n k : ℕ) : Type 0 where
  pub digits : n < 2 ^ 14
  pub small : k ≤ 900

value_size : (n k g : ℕ) (s : Bool) (y : Float) → HasValue y s g (2 ^ low binary64) → g ≤ n * 2 ^ k * 2 ^ low binary64 → Size n k y
value_size n k g s nan v h = absurd v
value_size n k g s (inf t) v h = absurd v
value_size n k g s (fin t m e) v h = cancel (m * up e) (n * 2 ^ k) (2 ^ low binary64) g (down e) (pow_pos (low binary64)) v.1 h
  where
    cancel : (m b p g d : ℕ) → 0 < p → m * p ≡ g * d → g ≤ b * p → m ≤ b * d
    cancel m b p g d P e h = le_of_mul-le-mul_right (le_trans (le_of_eq e) (le_trans (mul-le-mul_right d h) (le_of_eq (mul_right_comm b p d)))) P

pub round_size : (n k : ℕ) → Ample n k → (s : Bool) (a c : ℕ) → 0 < c → a ≤ n * 2 ^ k * c → Size n k (round binary64 s a c)
round_size n k a s p c C h =
    let l = low binary64 in
    let r = round_rounded binary64 s p c C in
    let e : n * 2 ^ (k + l) ≡ n * 2 ^ k * 2 ^ l = ap (λ (y : ℕ). n * y) (pow-add 2 k l) ∙ sym (mul_assoc n (2 ^ k) (2 ^ l)) in
    let g : r.size ≤ n * 2 ^ (k + l) =
    nearest_at_most (ratio binary64 p c) r.size (n * 2 ^ (k + l)) r.near
    (record { q = n; k = k + l; digits = lt_of_lt_of_le a.digits (lit≤ tt); size = refl })
    (λ i j. compare_lt (p * 2 ^ suc l) (i * c) (less p (n * 2 ^ k) c (2 ^ l) (n * 2 ^ (k + l)) (2 ^ suc l) i (pow-succ' 2 l) e h C j)) in
    value_size n k r.size s (round binary64 s p c)
    (r.finite (lt_of_le_of_lt g (lt_of_lt_of_le (shl_lt 14 (k + l) a.digits) (pow_mono {i = 14 + (k + l)} {j = l + 1024} (omega (arith, a.small)))))) (le_trans g (le_of_eq e))
  where
    less : (p b c l v t i : ℕ) → t ≡ 2 * l → v ≡ b * l → p ≤ b * c → 0 < c → v + v < i → p * t < i * c
    less p b c l v t i T e h C j =
        lt_of_le_of_lt (le_trans (le_of_eq (ap (λ (y : ℕ). p * y) T)) (le_trans (mul-le-mul_right (2 * l) h) (le_of_eq (turn b c l ∙ ap (λ (y : ℕ). (y + y) * c) (sym e))))) (mul-lt-mul_of_pos_right j C)
      where
        turn : (b c l : ℕ) → b * c * (2 * l) ≡ (b * l + b * l) * c
        turn b c l = omega arith

pub wider : (n k m j : ℕ) (x : Float) → n * 2 ^ k ≤ m * 2 ^ j → Size n k x → Size m j x
wider n k m j nan h p = p
wider n k m j (inf s) h p = p
wider n k m j (fin s i e) h p = le_trans p (mul-le-mul_right (down e) h)

pub size_finite : (n k : ℕ) (x : Float) → Size n k x → finite x ≡ true
size_finite n k nan h = absurd h
size_finite n k (inf s) h = absurd h
size_finite n k (fin s m e) h = refl

-- ---- sums, differences, products

sum_size : (n k : ℕ) → Ample n k → (s : Bool) (a : ℕ) (t : Bool) (b c : ℕ) → 0 < c → a + b ≤ n * 2 ^ k * c → Size n k (sum binary64 s a t b c)
unfolding sum
sum_size n k l s a t b c C h =
    go (beq s t) (ltb a b) _ _ _ (round_size n k l s (a + b) c C h) (round_size n k l t (b - a) c C (le_trans (omega arith) h)) (round_size n k l (s && ltb b a) (a - b) c C (le_trans (omega arith) h))
  where
    go : (p q : Bool) (x y z : Float) → Size n k x → Size n k y → Size n k z → Size n k (cond p x (cond q y z))
    go true q x y z i j l = i
    go false true x y z i j l = j
    go false false x y z i j l = l

pub add_size : (n m k : ℕ) (x y : Float) → Ample (n + m) k → Size n k x → Size m k y → Size (n + m) k (add binary64 x y)
unfolding add
add_size n m k nan y l h j = absurd h
add_size n m k (inf s) y l h j = absurd h
add_size n m k (fin s a e) nan l h j = absurd j
add_size n m k (fin s a e) (inf t) l h j = absurd j
add_size n m k (fin s a e) (fin t b d) l h j =
    sum_size (n + m) k l s (a * up e * down d) t (b * up d * down e) (down e * down d) (mul-pos (down_pos e) (down_pos d))
    (le_trans (add-le-add (mul-le-mul_right (down d) h) (mul-le-mul_right (down e) j)) (le_of_eq (gather n m (2 ^ k) (down e) (down d))))
  where
    gather : (n m w u v : ℕ) → n * w * u * v + m * w * v * u ≡ (n + m) * w * (u * v)
    gather n m w u v = omega arith

pub sub_size : (n m k : ℕ) (x y : Float) → Ample (n + m) k → Size n k x → Size m k y → Size (n + m) k (sub binary64 x y)
unfolding sub neg
sub_size n m k x nan l h j = absurd j
sub_size n m k x (inf t) l h j = absurd j
sub_size n m k x (fin t b d) l h j = add_size n m k x (fin (not t) b d) l h j

pub mul_size : (k j : ℕ) (x y : Float) → k + j ≤ 900 → Size 1 k x → Size 1 j y → Size 1 (k + j) (mul binary64 x y)
unfolding mul
mul_size k j nan y l h i = absurd h
mul_size k j (inf s) y l h i = absurd h
mul_size k j (fin s a e) nan l h i = absurd i
mul_size k j (fin s a e) (inf t) l h i = absurd i
mul_size k j (fin s a e) (fin t b d) l h i =
    round_size 1 (k + j) (record { digits = lit< tt; small = l }) _ (a * up e * (b * up d)) (down e * down d) (mul-pos (down_pos e) (down_pos d))
    (le_trans (mul-le-mul h i) (le_of_eq (gather (2 ^ k) (2 ^ j) (2 ^ (k + j)) (down e) (down d) (pow-add 2 k j))))
  where
    gather : (w w' z u v : ℕ) → z ≡ w * w' → 1 * w * u * (1 * w' * v) ≡ 1 * z * (u * v)
    gather w w' z u v e = rw e (omega arith)

-- n terms
pub upto_size : (k : ℕ) (t : ℕ → Float) (n : ℕ) → Ample n k → ((i : ℕ) → i < n → Size 1 k (t i)) → Size n k (upto t n)
unfolding upto
upto_size k t zero l h = le_of_eq (omega arith)
upto_size k t (suc n) l h =
    subst (λ (m : ℕ). Size m k (add binary64 (upto t n) (t n))) (add-one n)
    (add_size n 1 k (upto t n) (t n) (record { digits = omega (arith, l.digits); small = l.small }) (upto_size k t n (record { digits = omega (arith, l.digits); small = l.small }) (λ i j. h i (omega arith))) (h n (omega arith)))

-- ---- divisors: at least 2 ^ -j, or infinite

abbrev pub AtLeast : ℕ → Float → Type 0
AtLeast j nan = ⊥
AtLeast j (inf true) = ⊥
AtLeast j (inf false) = Unit {0}
AtLeast j (fin true m e) = ⊥
AtLeast j (fin false m e) = down e ≤ m * up e * 2 ^ j

pub div_size : (k j : ℕ) (x y : Float) → k + j ≤ 900 → Size 1 k x → AtLeast j y → Size 1 (k + j) (div binary64 x y)
unfolding div
div_size k j nan y l h i = absurd h
div_size k j (inf s) y l h i = absurd h
div_size k j (fin s a e) nan l h i = absurd i
div_size k j (fin s a e) (inf true) l h i = absurd i
div_size k j (fin s a e) (inf false) l h i = omega arith
div_size k j (fin s a e) (fin true b d) l h i = absurd i
div_size k j (fin s a e) (fin false zero d) l h i = absurd (omega (arith, i, down_pos d, zero-mul (up d), zero-mul (2 ^ j)))
div_size k j (fin s a e) (fin false (suc b) d) l h i =
    subst (λ (t : Bool). Size 1 (k + j) (cond t (cond (eqb a 0) nan (inf (unlike s false))) (round binary64 (unlike s false) (a * up e * down d) (suc b * up d * down e)))) (sym (eqb-suc-zero b))
    (round_size 1 (k + j) (record { digits = lit< tt; small = l }) (unlike s false) (a * up e * down d) (suc b * up d * down e) (mul-pos (mul-pos (zero-lt-suc b) (up_pos d)) (down_pos e))
    (le_trans (mul-le-mul h i) (le_of_eq (gather (2 ^ k) (2 ^ j) (2 ^ (k + j)) (down e) (suc b * up d) (pow-add 2 k j)))))
  where
    gather : (w w' z u v : ℕ) → z ≡ w * w' → 1 * w * u * (v * w') ≡ 1 * z * (v * u)
    gather w w' z u v e = rw e (omega arith)

-- 2 ^ -j of the smallest value's size, twice
halves : (j : ℕ) → j ≤ low binary64 → 2 ^ suc (low binary64) ≡ 2 ^ j * (2 ^ (low binary64 - j) + 2 ^ (low binary64 - j))
halves j l =
    let e : suc (low binary64) ≡ j + suc (low binary64 - j) = omega arith in
    ap (λ (n : ℕ). 2 ^ n) e ∙ pow-add 2 j (suc (low binary64 - j)) ∙ ap (λ (n : ℕ). 2 ^ j * n) (pow-succ' 2 (low binary64 - j) ∙ twice (2 ^ (low binary64 - j)))
  where
    twice : (n : ℕ) → 2 * n ≡ n + n
    twice n = omega arith

at_least_rounded : (j : ℕ) → j ≤ low binary64 → (x : Quantity) (y : Float) → Rounded binary64 false x y → ((h : ℕ) → h < 2 ^ (low binary64 - j) + 2 ^ (low binary64 - j) → x h ≡ Ordering.gt) → AtLeast j y
at_least_rounded j l x y r above =
    elim (le_or_lt (2 ^ (low binary64 + 1024)) r.size) [
      | inl o ↦ subst (AtLeast j) (sym (r.overflow o)) tt
      | inr f ↦ valued y (r.finite f)
    ]
  where
    v : ℕ
    v = 2 ^ (low binary64 - j)

    least : v ≤ r.size
    least = nearest_at_least x r.size v r.near (record { q = 1; k = low binary64 - j; digits = lit< tt; size = sym (one-mul v) }) above

    back : 2 ^ low binary64 ≡ 2 ^ j * v
    back = ap (λ (n : ℕ). 2 ^ n) (sums j l) ∙ pow-add 2 j (low binary64 - j)
      where
        sums : (j : ℕ) → j ≤ low binary64 → low binary64 ≡ j + (low binary64 - j)
        sums j l = omega arith

    cancel : (m d p q v g : ℕ) → 0 < v → m * p ≡ g * d → p ≡ q * v → v ≤ g → d ≤ m * q
    cancel m d p q v g P e b h =
        le_of_mul-le-mul_right {k = v} (le_trans (le_of_eq (mul_comm d v)) (le_trans (mul-le-mul_right d h) (le_of_eq (sym e ∙ ap (λ (z : ℕ). m * z) b ∙ sym (mul_assoc m q v))))) P

    valued : (y : Float) → HasValue y false r.size (2 ^ low binary64) → AtLeast j y
    valued nan h = absurd h
    valued (inf t) h = absurd h
    valued (fin true m e) h = absurd (true≢false h.0)
    valued (fin false m e) h = cancel (m * up e) (down e) (2 ^ low binary64) (2 ^ j) v r.size (pow_pos (low binary64 - j)) h.1 back least

-- a quotient
round_at_least : (j : ℕ) → j ≤ low binary64 → (a c : ℕ) → 0 < c → c ≤ a * 2 ^ j → AtLeast j (round binary64 false a c)
round_at_least j l a c C h =
    at_least_rounded j l (ratio binary64 a c) (round binary64 false a c) (round_rounded binary64 false a c C)
    (λ i k. compare_gt (a * 2 ^ suc (low binary64)) (i * c) (more a c (2 ^ j) (2 ^ (low binary64 - j)) (2 ^ suc (low binary64)) i (halves j l) h C k))
  where
    more : (a c q v t i : ℕ) → t ≡ q * (v + v) → c ≤ a * q → 0 < c → i < v + v → i * c < a * t
    more a c q v t i e h C k = lt_of_lt_of_le (mul-lt-mul_of_pos_right k C) (le_trans (mul-le-mul_left (v + v) h) (le_of_eq (turn a q (v + v) ∙ ap (λ (z : ℕ). a * z) (sym e))))
      where
        turn : (a q w : ℕ) → w * (a * q) ≡ a * (q * w)
        turn a q w = omega arith

pub mul_at_least : (i j : ℕ) (x y : Float) → i + j ≤ low binary64 → finite x ≡ true → finite y ≡ true → AtLeast i x → AtLeast j y → AtLeast (i + j) (mul binary64 x y)
unfolding mul
mul_at_least i j nan y l f g h k = absurd h
mul_at_least i j (inf s) y l f g h k = absurd (true≢false (sym f))
mul_at_least i j (fin true m e) y l f g h k = absurd h
mul_at_least i j (fin false m e) nan l f g h k = absurd k
mul_at_least i j (fin false m e) (inf s) l f g h k = absurd (true≢false (sym g))
mul_at_least i j (fin false m e) (fin true n d) l f g h k = absurd k
mul_at_least i j (fin false m e) (fin false n d) l f g h k =
    round_at_least (i + j) l (m * up e * (n * up d)) (down e * down d) (mul-pos (down_pos e) (down_pos d))
    (le_trans (mul-le-mul h k) (le_of_eq (gather (m * up e) (n * up d) (2 ^ i) (2 ^ j) (2 ^ (i + j)) (pow-add 2 i j))))
  where
    gather : (a b w w' z : ℕ) → z ≡ w * w' → a * w * (b * w') ≡ a * b * z
    gather a b w w' z e = rw e (omega arith)

-- a root
pub root_at_least : (j : ℕ) (x : Float) → j ≤ low binary64 → AtLeast (j + j) x → AtLeast j (root binary64 x)
unfolding root
root_at_least j nan l h = absurd h
root_at_least j (inf true) l h = absurd h
root_at_least j (inf false) l h = tt
root_at_least j (fin true m e) l h = absurd h
root_at_least j (fin false zero e) l h = absurd (omega (arith, h, down_pos e, zero-mul (up e), zero-mul (2 ^ (j + j))))
root_at_least j (fin false (suc m) e) l h =
    at_least_rounded j l (root_of binary64 (suc m * up e) (down e)) _ (root_row binary64 m e)
    (λ i k. compare_gt (suc m * up e * (2 ^ suc (low binary64) * 2 ^ suc (low binary64))) (i * i * down e)
    (more (suc m * up e) (down e) (2 ^ j) (2 ^ (j + j)) (2 ^ (low binary64 - j)) (2 ^ suc (low binary64)) i (halves j l) (pow-add 2 j j) h (down_pos e) k))
  where
    more : (a c q z v t i : ℕ) → t ≡ q * (v + v) → z ≡ q * q → c ≤ a * z → 0 < c → i < v + v → i * i * c < a * (t * t)
    more a c q z v t i e f h C k =
        lt_of_lt_of_le (mul-lt-mul_of_pos_right (square_lt i (v + v) k) C)
        (le_trans (mul-le-mul_left ((v + v) * (v + v)) h) (le_of_eq (ap (λ (y : ℕ). (v + v) * (v + v) * (a * y)) f ∙ turn a q (v + v) ∙ ap (λ (y : ℕ). a * (y * y)) (sym e))))
      where
        turn : (a q w : ℕ) → w * w * (a * (q * q)) ≡ a * (q * w * (q * w))
        turn a q w = omega arith

-- ---- the energy floor, 1e-12, is above 2 ^ -40

floor_is : energy_floor ≡ fin false 4951760157141521 (negsuc 91)
unfolding of_bits
floor_is = refl

left_false : (p q : Bool) → (p || q) ≡ false → p ≡ false
left_false true q h = h
left_false false q h = refl

floor_by : (s : Bool) (m : ℕ) (e : ℤ) → le (fin s m e) (fin false 4951760157141521 (negsuc 91)) ≡ false → AtLeast 40 (fin s m e)
unfolding le lt eq
floor_by true m e f = absurd (some (m * up e) (down e) (down_pos e) (ltb-false 0 _ (left_false _ _ f)))
  where
    some : (a d : ℕ) → 0 < d → a * 2 ^ 92 + 4951760157141521 * 1 * d ≤ 0 → ⊥
    some a d p h = omega arith
floor_by false m e f = scaled (m * up e) (down e) (ltb-false _ _ (left_false _ _ f))
  where
    scaled : (a d : ℕ) → 4951760157141521 * 1 * d ≤ a * 2 ^ 92 → d ≤ a * 2 ^ 40
    scaled a d h =
        le_of_mul-le-mul_right {k = 2 ^ 52} (le_trans (le_trans (le_of_eq (mul_comm d (2 ^ 52))) (mul-le-mul_right d (lit≤ {m = 2 ^ 52} {n = 4951760157141521 * 1} tt))) (le_trans h (le_of_eq (sym (mul_assoc a (2 ^ 40) (2 ^ 52))))))
        (lit< tt)

pub above_floor : (n k : ℕ) (x : Float) → le x energy_floor ≡ false → Size n k x → AtLeast 40 x
above_floor n k nan f h = absurd h
above_floor n k (inf s) f h = absurd h
above_floor n k (fin s m e) f h = floor_by s m e (ap (le (fin s m e)) (sym floor_is) ∙ f)

-- ---- values to start from

-- a level
pub level_size : (x : Float) → AtMost 1 x → Size 1 128 x
level_size nan h = absurd h
level_size (inf s) h = absurd h
level_size (fin true m e) h = absurd h
level_size (fin false m e) h = le_trans h (mul-le-mul_right (down e) (lit≤ tt))

-- a whole number above 0, as a divisor
pub whole_at_least : (n : ℕ) → 0 < n → AtLeast 0 (whole n)
unfolding of_int
whole_at_least n p = round_at_least 0 (lit≤ tt) n 1 (lit< tt) (omega arith)

-- ---- in powers of two

pub looser : (k j : ℕ) (x : Float) → k ≤ j → Size 1 k x → Size 1 j x
looser k j x l h = wider 1 k 1 j x (mul-le-mul_left 1 (pow_mono l)) h

pub difference_size : (k : ℕ) (x y : Float) → k ≤ 900 → Size 1 k x → Size 1 k y → Size 1 (k + 1) (sub binary64 x y)
difference_size k x y l h j = wider 2 k 1 (k + 1) (sub binary64 x y) (le_of_eq (twice (2 ^ k) (2 ^ (k + 1)) (pow-add 2 k 1))) (sub_size 1 1 k x y (record { digits = lit< tt; small = l }) h j)
  where
    twice : (w z : ℕ) → z ≡ w * 2 ^ 1 → 2 * w ≡ 1 * z
    twice w z e = omega arith

pub total_size : (k : ℕ) (t : ℕ → Float) (n : ℕ) → k ≤ 900 → n ≤ 8000 → ((i : ℕ) → i < n → Size 1 k (t i)) → Size 1 (k + 13) (upto t n)
total_size k t n l m h =
    wider n k 1 (k + 13) (upto t n) (le_trans (mul-le-mul_right (2 ^ k) (le_trans m (lit≤ {m = 8000} {n = 2 ^ 13} tt))) (le_of_eq (turn (2 ^ k) (2 ^ (k + 13)) (pow-add 2 k 13))))
    (upto_size k t n (record { digits = lt_of_le_of_lt m (lit< tt); small = l }) h)
  where
    turn : (w z : ℕ) → z ≡ w * 2 ^ 13 → 2 ^ 13 * w ≡ 1 * z
    turn w z e = omega arith
