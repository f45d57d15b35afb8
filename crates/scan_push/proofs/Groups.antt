-- Whole blocks at once, and pushes in runs.
use Prim.Native.Nat.{ℕ, zero, suc, ◌+◌, ◌*◌, ◌-◌, ◌%◌, ◌≤◌, ◌<◌}
use mathlib.Core.Path.{◌≡◌, refl, sym, ap, ◌∙◌, subst}
use mathlib.Core.List.{List, [], ◌∷◌, ◌++◌}
use mathlib.Core.Bool.{true}
use native.Mathlib.Nat.{zero-add, add-zero, add-suc, mul-one, mul-le-mul_left}
use native.Mathlib.Numerals.{add-one}
use native.Mathlib.Omega.{arith}
use lib.ListN.{length, take, drop, set, drop_of_length-le, length-append, length-drop, length-set}
use Rattle.std.proofs.lemmas.List.{get_or-take, get_or-drop}
use lib.Seq.{drop-cons, length-take-le}
use lib.Ieee.{Float, nan}
use lib.Ieee.Scale.{finite}
use Rattle.answers.specs.Pick.{pick}
use Rattle.answers.specs.Numbers.{limit}
use Rattle.floats.specs.Functions.{zero64}
use Rattle.folds.specs.Sums.{all_finite, at}
use Rattle.scan.specs.Bins.{envelope_len}
use Rattle.scan.specs.Blocks.{Heard, hear, hear_all, level_of, summed}
use Rattle.scan.specs.declared.Geometry.{Geometry}
use Rattle.scan.specs.declared.Far.{Far}
use Rattle.scan_push.specs.Ready.{Placed}
use Rattle.scan_push.specs.Onward.{onward}
use Rattle.scan_push.proofs.Pushing.{completes, goes_on, Ready, hear_ready, Going}
use Rattle.scan_push.proofs.Holds.{pushes_join}
use Rattle.scan_calls.proofs.Chains.{first, second}

-- ---- a block's number is at most the samples accepted

pub next_small : (g : Geometry) (f : Far) → Placed g f → 1 ≤ g.decimation → f.accepted ≤ limit → f.next ≤ limit
next_small g f p some l =
    let h : f.next * 1 ≤ f.next * g.decimation = mul-le-mul_left f.next some in
    omega (arith, h, mul-one f.next, p.accepted)

-- ---- a list of finite values

pub finite_at : (xs : List Float) (i : ℕ) → all_finite xs ≡ true → i < length xs → finite (at xs i) ≡ true
unfolding all_finite
finite_at [] i h l = absurd (omega arith)
finite_at (x ∷ xs) zero h l = first _ _ h
finite_at (x ∷ xs) (suc i) h l = finite_at xs i (second (finite x) _ h) (omega arith)

-- ---- n values of a list from one place on

pub part_length : (xs : List Float) (from n : ℕ) → from + n ≤ length xs → length (take (from + n - from) (drop from xs)) ≡ n
part_length xs from n h =
    let e : from + n - from ≡ n = omega arith in
    rw e (length-take-le n (drop from xs) (omega (arith, length-drop from xs)))

pub at_part : (xs : List Float) (from n i : ℕ) → i < n → at (take (from + n - from) (drop from xs)) i ≡ at xs (from + i)
at_part xs from n i h =
    get_or-take (from + n - from) (drop from xs) i nan (omega arith) ∙ get_or-drop from xs i nan

-- ---- one more term of a sum that goes on

pub onward_more : (s : Float) (xs : List Float) (m i : ℕ) (t : Float) → t ≡ onward s xs m i → summed t (at xs (m + i)) ≡ onward s xs m (i + 1)
unfolding onward
onward_more s xs m i t e = rw (add-one, e)

pub onward_first : (s : Float) (xs : List Float) (i : ℕ) (t : Float) → t ≡ onward s xs 0 i → summed t (at xs i) ≡ onward s xs 0 (i + 1)
onward_first s xs i t e = ap (λ (n : ℕ). summed t (at xs n)) (sym (zero-add i)) ∙ onward_more s xs 0 i t e

-- a sum that goes on twice
pub onward_join : (s : Float) (xs : List Float) (m a b : ℕ) → onward (onward s xs m a) xs (m + a) b ≡ onward s xs m (a + b)
unfolding onward
onward_join s xs m a zero = simp add-zero
onward_join s xs m a (suc b) =
    let e = onward_join s xs m a b in
    let p : m + a + b ≡ m + (a + b) = omega arith in
    rw (e, p, add-suc a b)

pub onward_through : (s t : Float) (xs : List Float) (m k from a b : ℕ) → t ≡ onward s xs m a → from ≡ m + a → a + b ≡ k → onward t xs from b ≡ onward s xs m k
onward_through s t xs m k from a b e p q = ap (λ (u : Float). onward u xs from b) e ∙ ap (λ (n : ℕ). onward (onward s xs m a) xs n b) p ∙ onward_join s xs m a b ∙ ap (onward s xs m) q

-- ---- samples of one block

module _ (slack : ℕ) (g : Geometry) (xs : List Float) where
  abbrev with : Far → List Float → Heard
  with f e = record { far = f; envelope = e }

  one : (h : Heard) (n : ℕ) → n < length xs → hear_all slack g h (drop n xs) ≡ hear_all slack g (hear slack g h (at xs n)) (drop (n + 1) xs)
  unfolding hear_all
  one h n l = rw (add-one, drop-cons xs n nan)

  -- the far side after k more samples of the block, from m on
  abbrev begun : Far → ℕ → ℕ → Far
  begun f m k = record { next = f.next; sum = onward f.sum xs m k; count = f.count + k; accepted = f.accepted + k }

  into : (f : Far) (e : List Float) (m k : ℕ) → f.count + k < g.decimation → m + k ≤ length xs
      → hear_all slack g (with f e) (drop m xs) ≡ hear_all slack g (with (begun f m k) e) (drop (m + k) xs)
  unfolding onward
  into f e m zero small within = simp add-zero
  into f e m (suc k) small within =
      let a = into f e m k (omega arith) (omega arith) in
      let b = one (with (begun f m k) e) (m + k) (omega arith) in
      let c = goes_on slack g (begun f m k) e (at xs (m + k)) (λ q. omega arith) in
      a ∙ b ∙ ap (λ (t : Heard). hear_all slack g t (drop (m + k + 1) xs)) c ∙ simp (add-one, add-suc)

  -- the far side after the block's last k samples
  abbrev ended : Far → ℕ → Far
  ended f k = record { next = f.next + 1; sum = zero64; count = 0; accepted = f.accepted + k }

  block : (f : Far) (e : List Float) (m k : ℕ) → f.count < g.decimation → f.count + k ≡ g.decimation → m + k ≤ length xs
      → hear_all slack g (with f e) (drop m xs)
      ≡ hear_all slack g (with (ended f k) (set e (f.next % envelope_len slack g) (level_of g (onward f.sum xs m k)))) (drop (m + k) xs)
  block f e m k some whole within =
      let j = k - 1 in
      let s : j + 1 ≡ k = omega arith in
      let a = into f e m j (omega arith) (omega arith) in
      let b = one (with (begun f m j) e) (m + j) (omega arith) in
      let c = completes slack g (begun f m j) e (at xs (m + j)) (omega arith) in
      let total : summed (onward f.sum xs m j) (at xs (m + j)) ≡ onward f.sum xs m k = onward_more f.sum xs m j _ refl ∙ ap (onward f.sum xs m) s in
      let taken : f.accepted + j + 1 ≡ f.accepted + k = omega arith in
      let place : m + j + 1 ≡ m + k = omega arith in
      a ∙ b ∙ ap (λ (t : Heard). hear_all slack g t (drop (m + j + 1) xs)) c ∙ rw (total, taken, place)

  -- ---- a part, whole or not

  pub goes : (f : Far) (e : List Float) → f.count + length xs < g.decimation → hear_all slack g (with f e) xs ≡ with (begun f 0 (length xs)) e
  unfolding hear_all
  goes f e small = into f e 0 (length xs) small (omega arith) ∙ rw (zero-add (length xs), drop_of_length-le xs {i = length xs} (omega arith))

  pub ends_block : (f : Far) (e : List Float) → f.count < g.decimation → f.count + length xs ≡ g.decimation
      → hear_all slack g (with f e) xs ≡ with (ended f (length xs)) (set e (f.next % envelope_len slack g) (level_of g (onward f.sum xs 0 (length xs))))
  unfolding hear_all
  ends_block f e some whole = block f e 0 (length xs) some whole (omega arith) ∙ rw (zero-add (length xs), drop_of_length-le xs {i = length xs} (omega arith))

  -- ---- the block under way, and samples of the next

  pub into_second : (f : Far) (e : List Float) (r k : ℕ) → f.count < g.decimation → f.count + r ≡ g.decimation → r + k ≡ length xs → k < g.decimation
      → hear_all slack g (with f e) xs
      ≡ with (record { next = f.next + 1; sum = onward zero64 xs r k; count = k; accepted = f.accepted + length xs }) (set e (f.next % envelope_len slack g) (level_of g (onward f.sum xs 0 r)))
  unfolding hear_all
  into_second f e r k some whole l small =
      let f₁ = ended f r in
      let e₁ = set e (f.next % envelope_len slack g) (level_of g (onward f.sum xs 0 r)) in
      let a = block f e 0 r some whole (omega arith) in
      let from : hear_all slack g (with f₁ e₁) (drop (0 + r) xs) ≡ hear_all slack g (with f₁ e₁) (drop r xs) = rw (zero-add r) in
      let b = into f₁ e₁ r k (omega arith) (omega arith) in
      let taken : f.accepted + r + k ≡ f.accepted + length xs = omega arith in
      a ∙ from ∙ b ∙ rw (drop_of_length-le xs {i = r + k} (omega arith), taken, zero-add k)

  pub ends_second : (f : Far) (e : List Float) (r k : ℕ) → f.count < g.decimation → f.count + r ≡ g.decimation → r + k ≡ length xs → k ≡ g.decimation
      → hear_all slack g (with f e) xs
      ≡ with (record { next = f.next + 1 + 1; sum = zero64; count = 0; accepted = f.accepted + length xs })
      (set (set e (f.next % envelope_len slack g) (level_of g (onward f.sum xs 0 r))) ((f.next + 1) % envelope_len slack g) (level_of g (onward zero64 xs r k)))
  unfolding hear_all
  ends_second f e r k some whole l full =
      let f₁ = ended f r in
      let e₁ = set e (f.next % envelope_len slack g) (level_of g (onward f.sum xs 0 r)) in
      let a = block f e 0 r some whole (omega arith) in
      let from : hear_all slack g (with f₁ e₁) (drop (0 + r) xs) ≡ hear_all slack g (with f₁ e₁) (drop r xs) = rw (zero-add r) in
      let b = block f₁ e₁ r k (omega arith) (omega arith) (omega arith) in
      let taken : f.accepted + r + k ≡ f.accepted + length xs = omega arith in
      a ∙ from ∙ b ∙ rw (drop_of_length-le xs {i = r + k} (omega arith), taken)

  -- ---- four of them

  pub four : (f : Far) (e : List Float) → f.count ≡ 0 → 1 ≤ g.decimation → length xs ≡ 4 * g.decimation
      → let D = g.decimation in let L = envelope_len slack g in
      hear_all slack g (with f e) xs
      ≡ with (record { next = f.next + 1 + 1 + 1 + 1; sum = zero64; count = 0; accepted = f.accepted + length xs })
      (set (set (set (set e (f.next % L) (level_of g (onward f.sum xs 0 D)))
      ((f.next + 1) % L) (level_of g (onward zero64 xs D D)))
      ((f.next + 1 + 1) % L) (level_of g (onward zero64 xs (D + D) D)))
      ((f.next + 1 + 1 + 1) % L) (level_of g (onward zero64 xs (D + D + D) D)))
  unfolding hear_all
  four f e z some l =
      let D = g.decimation in
      let f₁ = ended f D in
      let f₂ = ended f₁ D in
      let f₃ = ended f₂ D in
      let L = envelope_len slack g in
      let e₁ = set e (f.next % L) (level_of g (onward f.sum xs 0 D)) in
      let e₂ = set e₁ (f₁.next % L) (level_of g (onward zero64 xs D D)) in
      let e₃ = set e₂ (f₂.next % L) (level_of g (onward zero64 xs (D + D) D)) in
      let a = block f e 0 D (omega arith) (omega arith) (omega arith) in
      let b = block f₁ e₁ D D (omega arith) (omega arith) (omega arith) in
      let c = block f₂ e₂ (D + D) D (omega arith) (omega arith) (omega arith) in
      let d = block f₃ e₃ (D + D + D) D (omega arith) (omega arith) (omega arith) in
      let from : hear_all slack g (with f₁ e₁) (drop (0 + D) xs) ≡ hear_all slack g (with f₁ e₁) (drop D xs) = rw (zero-add D) in
      let taken : f.accepted + D + D + D + D ≡ f.accepted + length xs = omega arith in
      a ∙ from ∙ b ∙ c ∙ d ∙ rw (drop_of_length-le xs {i = D + D + D + D} (omega arith), taken)

-- a level stored, and two one after the other, their sums known
pub store_one : (g : Geometry) (L n : ℕ) (e e₁ : List Float) (s₁ t₁ : Float) → length e ≡ L → s₁ ≡ t₁ → e₁ ≡ set e (n % length e) (level_of g s₁) → e₁ ≡ set e (n % L) (level_of g t₁)
store_one g L n e e₁ s₁ t₁ l p₁ q₁ = rw (q₁, p₁) (simp l)

pub store_two : (g : Geometry) (L n : ℕ) (e e₁ e₂ : List Float) (s₁ s₂ t₁ t₂ : Float) → length e ≡ L → s₁ ≡ t₁ → s₂ ≡ t₂
    → e₁ ≡ set e (n % length e) (level_of g s₁) → e₂ ≡ set e₁ ((n + 1) % length e₁) (level_of g s₂)
    → e₂ ≡ set (set e (n % L) (level_of g t₁)) ((n + 1) % L) (level_of g t₂)
store_two g L n e e₁ e₂ s₁ s₂ t₁ t₂ l p₁ p₂ q₁ q₂ = rw (q₂, q₁, p₁, p₂) (simp (length-set, l))

-- four levels stored one after the other, their sums known
pub stores : (g : Geometry) (L n : ℕ) (e e₁ e₂ e₃ e₄ : List Float) (s₁ s₂ s₃ s₄ t₁ t₂ t₃ t₄ : Float) → length e ≡ L
    → s₁ ≡ t₁ → s₂ ≡ t₂ → s₃ ≡ t₃ → s₄ ≡ t₄
    → e₁ ≡ set e (n % length e) (level_of g s₁) → e₂ ≡ set e₁ ((n + 1) % length e₁) (level_of g s₂)
    → e₃ ≡ set e₂ ((n + 1 + 1) % length e₂) (level_of g s₃) → e₄ ≡ set e₃ ((n + 1 + 1 + 1) % length e₃) (level_of g s₄)
    → e₄ ≡ set (set (set (set e (n % L) (level_of g t₁)) ((n + 1) % L) (level_of g t₂)) ((n + 1 + 1) % L) (level_of g t₃)) ((n + 1 + 1 + 1) % L) (level_of g t₄)
stores g L n e e₁ e₂ e₃ e₄ s₁ s₂ s₃ s₄ t₁ t₂ t₃ t₄ l p₁ p₂ p₃ p₄ q₁ q₂ q₃ q₄ = rw (q₄, q₃, q₂, q₁, p₁, p₂, p₃, p₄) (simp (length-set, l))

-- ---- a push in runs

finite_front : (xs ys : List Float) → all_finite (xs ++ ys) ≡ true → all_finite xs ≡ true
unfolding all_finite pick
finite_front [] ys h = refl
finite_front (x ∷ xs) ys h =
    let a : finite x ≡ true = first (finite x) (all_finite (xs ++ ys)) h in
    let b = finite_front xs ys (second (finite x) _ h) in
    rw (a, b)

ready_front : (slack : ℕ) (g : Geometry) (h : Heard) (xs ys : List Float) → Ready slack g h (xs ++ ys) → Ready slack g h xs
ready_front slack g h xs ys r = record { bounds = r.bounds; fit = r.fit; placed = r.placed; room = omega (arith, r.room, length-append xs ys); finite = finite_front xs ys r.finite }

ready_rest : (slack : ℕ) (g : Geometry) (h : Heard) (xs ys : List Float) → Ready slack g h (xs ++ ys) → Ready slack g (hear_all slack g h xs) ys
unfolding hear_all
ready_rest slack g h [] ys r = r
ready_rest slack g h (x ∷ xs) ys r = ready_rest slack g (hear slack g h x) xs ys (hear_ready slack g h x (xs ++ ys) r)

-- the samples that are left are a run and later ones
module _ (slack : ℕ) (g : Geometry) (h₀ : Heard) (xs : List Float) (h : Heard) (rest run later : List Float) (k : Going slack g h₀ xs h rest) (parted : rest ≡ run ++ later) where
  all : Ready slack g h (run ++ later)
  all = subst (λ (t : List Float). Ready slack g h t) parted k.left

  pub run_ready : Ready slack g h run
  run_ready = ready_front slack g h run later all

  pub run_heard : (f : Far) (e : List Float) → f ≡ (hear_all slack g h run).far → e ≡ (hear_all slack g h run).envelope → Going slack g h₀ xs (record { far = f; envelope = e }) later
  run_heard f e p q =
      let same : ◌≡◌ {A = Heard} (record { far = f; envelope = e }) (hear_all slack g h run) = rw (p, q) in
      record {
        left = subst (λ (t : Heard). Ready slack g t later) (sym same) (ready_rest slack g h run later all);
        whole = ap (λ (t : Heard). hear_all slack g t later) same ∙ sym (pushes_join slack g h run later) ∙ ap (hear_all slack g h) (sym parted) ∙ k.whole;
      }
