-- Samples that go into the frame, a block at a time.
use Prim.Native.Nat.{ℕ, zero, suc, ◌+◌, ◌-◌, ◌*◌, ◌≤◌, ◌<◌}
use mathlib.Core.Path.{◌≡◌, refl, sym, ap, ◌∙◌, subst}
use mathlib.Core.List.{List, [], ◌∷◌, ◌++◌}
use mathlib.Core.Bool.{true, false}
use mathlib.Core.Logic.{inl, inr}
use native.Mathlib.Nat.{add-zero, zero-add, add-mul, mul-le-mul_right}
use native.Mathlib.Numerals.{add-one}
use native.Mathlib.Omega.{arith}
use lib.Dec.{eqb}
use lib.ListN.{length, take, drop, set, drop_of_length-le, length-append, length-take, length-drop}
use lib.Seq.{drop-cons, length-take-le}
use lib.Ieee.{Float, nan}
use lib.Ieee.Scale.{finite}
use borrow.Author.Tests.{eq-eqb, ne_eqb}
use Rattle.answers.specs.Pick.{pick, pick_true, pick_false}
use Rattle.floats.specs.Functions.{zero64}
use Rattle.floats.proofs.Compare.{le_or_lt}
use Rattle.folds.specs.Sums.{all_finite, at}
use Rattle.scan.specs.State.{idle}
use Rattle.scan.specs.Blocks.{Seen, gather, first_bin, summed, level_of}
use Rattle.scan.specs.declared.Geometry.{Geometry}
use Rattle.scan.specs.declared.Near.{Near}
use Rattle.scan.proofs.Laws.{both_left, both_right}
use Rattle.scan_push.specs.Onward.{onward}
use Rattle.scan_push.proofs.Groups.{onward_more}
use Rattle.scan_push.proofs.Pushing.{closes_bin, goes_on_bin}
use Rattle.scan_handover.specs.Handover.{gather_all}
use Rattle.scan_handover.specs.Ready.{Fills}
use Rattle.scan_handover.proofs.Places.{gather_length, gather_taken, gather_partial}

-- ---- a frame that wants a sample has a bin for it

has_room : (len count D frame k : ℕ) → 0 < k → len * D + count + k ≤ frame * D → len < frame
has_room len count D frame k some h = elim (le_or_lt frame len) [
  | inl a ↦ let m : frame * D ≤ len * D = mul-le-mul_right D a in absurd (omega (arith, m, h, some))
  | inr b ↦ b
]

pub next_bin : (g : Geometry) (n : Near) (levels xs : List Float) (index : ℕ) → Fills g n levels xs index → 0 < length xs → n.len < g.frame
next_bin g n levels xs index r some = has_room n.len n.count g.decimation g.frame (length xs) some r.room

-- ---- a part of a list, as it is lent

none_taken : (k : ℕ) → ◌≡◌ {A = List Float} (take k []) []
none_taken zero = refl
none_taken (suc k) = refl

pub part_is : (xs : List Float) (a b : ℕ) → take (b - a) (drop a xs) ≡ drop a (take b xs)
part_is xs zero b = let e : b - 0 ≡ b = omega arith in ap (λ (k : ℕ). take k xs) e
part_is [] (suc a) b = none_taken (b - suc a) ∙ sym (ap (drop (suc a)) (none_taken b))
part_is (x ∷ xs) (suc a) zero = let e : 0 - suc a ≡ 0 = omega arith in ap (λ (k : ℕ). take k (drop a xs)) e
part_is (x ∷ xs) (suc a) (suc b) = let e : suc b - suc a ≡ b - a = omega arith in ap (λ (k : ℕ). take k (drop a xs)) e ∙ part_is xs a b

-- none of it is left where the end is not behind the start
pub none_between : (xs : List Float) (a b : ℕ) → b ≤ a → drop a (take b xs) ≡ []
none_between xs a b h = drop_of_length-le (take b xs) {i = a} (omega (arith, length-take b xs, h))

pub part_length : (xs : List Float) (a b : ℕ) → b ≤ length xs → length (drop a (take b xs)) ≡ b - a
part_length xs a b h = length-drop a (take b xs) ∙ ap (λ (k : ℕ). k - a) (length-take-le b xs h)

-- ---- samples of one block

module _ (g : Geometry) (xs : List Float) where
  abbrev with : Near → List Float → Seen
  with n levels = record { near = n; levels = levels }

  one : (t : Seen) (j i : ℕ) → j < length xs → gather_all g t (drop j xs) i ≡ gather_all g (gather g t (at xs j) i) (drop (j + 1) xs) (i + 1)
  unfolding gather_all
  one t j i l = rw (add-one, drop-cons xs j nan)

  -- the near side after k + 1 samples of the block, from m on
  abbrev begun : Near → ℕ → ℕ → ℕ → Near
  begun n m index k = record { len = n.len; sum = onward n.sum xs m (k + 1); count = n.count + (k + 1); first = first_bin g n index; last = index + k }

  stays : (n : Near) (m index k i : ℕ) → first_bin g (begun n m index k) i ≡ first_bin g n index
  stays n m index k i = pick_false (idle (begun n m index k)) _ _ (pick_false (eqb (n.count + (k + 1)) 0) _ false (ne_eqb (n.count + (k + 1)) 0 (λ (e : n.count + (k + 1) ≡ 0). omega (arith, e))))

  first_sum : (s : Float) (m : ℕ) → summed s (at xs m) ≡ onward s xs m (0 + 1)
  unfolding onward
  first_sum s m = ap (λ (z : ℕ). summed s (at xs z)) (sym (add-zero m))

  into : (n : Near) (levels : List Float) (m index k : ℕ) → n.count + (k + 1) < g.decimation → m + (k + 1) ≤ length xs
      → gather_all g (with n levels) (drop m xs) index ≡ gather_all g (with (begun n m index k) levels) (drop (m + (k + 1)) xs) (index + (k + 1))
  into n levels m index zero small within =
      let a = one (with n levels) m index (omega arith) in
      let c = goes_on_bin g n levels (at xs m) index (λ (e : n.count + 1 ≡ g.decimation). omega (arith, e)) in
      let last : index ≡ index + 0 = omega arith in
      a
      ∙ ap (λ (t : Seen). gather_all g t (drop (m + 1) xs) (index + 1)) c
      ∙ ap (λ (z : Float). gather_all g (with (record { len = n.len; sum = z; count = n.count + 1; first = first_bin g n index; last = index }) levels) (drop (m + 1) xs) (index + 1)) (first_sum n.sum m)
      ∙ ap (λ (z : ℕ). gather_all g (with (record { len = n.len; sum = onward n.sum xs m (0 + 1); count = n.count + 1; first = first_bin g n index; last = z }) levels) (drop (m + 1) xs) (index + 1)) last
  into n levels m index (suc k) small within =
      let a = into n levels m index k (omega arith) (omega arith) in
      let b = one (with (begun n m index k) levels) (m + (k + 1)) (index + (k + 1)) (omega arith) in
      let c = goes_on_bin g (begun n m index k) levels (at xs (m + (k + 1))) (index + (k + 1)) (λ (e : n.count + (k + 1) + 1 ≡ g.decimation). omega (arith, e)) in
      let total : summed (onward n.sum xs m (k + 1)) (at xs (m + (k + 1))) ≡ onward n.sum xs m (suc k + 1) = onward_more n.sum xs m (k + 1) _ refl ∙ ap (onward n.sum xs m) (omega arith) in
      let count : n.count + (k + 1) + 1 ≡ n.count + (suc k + 1) = omega arith in
      let place : index + (k + 1) + 1 ≡ index + (suc k + 1) = omega arith in
      let last : index + (k + 1) ≡ index + suc k = omega arith in
      let rest : m + (k + 1) + 1 ≡ m + (suc k + 1) = omega arith in
      a
      ∙ b
      ∙ ap (λ (t : Seen). gather_all g t (drop (m + (k + 1) + 1) xs) (index + (k + 1) + 1)) c
      ∙ rw (stays n m index k (index + (k + 1)), total, count, place, last, rest)

  -- the near side after the block's last k samples
  abbrev ended : Near → ℕ → ℕ → Near
  ended n index k = record { len = n.len + 1; sum = zero64; count = 0; first = first_bin g n index; last = index + k - 1 }

  block : (n : Near) (levels : List Float) (m index k : ℕ) → 0 < k → n.count + k ≡ g.decimation → m + k ≤ length xs
      → gather_all g (with n levels) (drop m xs) index
      ≡ gather_all g (with (ended n index k) (set levels n.len (level_of g (onward n.sum xs m k)))) (drop (m + k) xs) (index + k)
  block n levels m index zero some whole within = absurd (omega (arith, some))
  block n levels m index (suc zero) some whole within =
      let a = one (with n levels) m index (omega arith) in
      let c = closes_bin g n levels (at xs m) index (omega (arith, whole)) in
      let last : index ≡ index + 1 - 1 = omega arith in
      a
      ∙ ap (λ (t : Seen). gather_all g t (drop (m + 1) xs) (index + 1)) c
      ∙ ap (λ (z : Float). gather_all g (with (record { len = n.len + 1; sum = zero64; count = 0; first = first_bin g n index; last = index }) (set levels n.len (level_of g z))) (drop (m + 1) xs) (index + 1)) (first_sum n.sum m)
      ∙ ap (λ (z : ℕ). gather_all g (with (record { len = n.len + 1; sum = zero64; count = 0; first = first_bin g n index; last = z }) (set levels n.len (level_of g (onward n.sum xs m (0 + 1))))) (drop (m + 1) xs) (index + 1)) last
  block n levels m index (suc (suc k)) some whole within =
      let a = into n levels m index k (omega (arith, whole)) (omega arith) in
      let b = one (with (begun n m index k) levels) (m + (k + 1)) (index + (k + 1)) (omega arith) in
      let c = closes_bin g (begun n m index k) levels (at xs (m + (k + 1))) (index + (k + 1)) (omega (arith, whole)) in
      let total : summed (onward n.sum xs m (k + 1)) (at xs (m + (k + 1))) ≡ onward n.sum xs m (suc (suc k)) = onward_more n.sum xs m (k + 1) _ refl ∙ ap (onward n.sum xs m) (omega arith) in
      let place : index + (k + 1) + 1 ≡ index + suc (suc k) = omega arith in
      let last : index + (k + 1) ≡ index + suc (suc k) - 1 = omega arith in
      let rest : m + (k + 1) + 1 ≡ m + suc (suc k) = omega arith in
      a
      ∙ b
      ∙ ap (λ (t : Seen). gather_all g t (drop (m + (k + 1) + 1) xs) (index + (k + 1) + 1)) c
      ∙ rw (stays n m index k (index + (k + 1)), total, place, last, rest)

  -- ---- a part, whole or not

  pub goes : (n : Near) (levels : List Float) (index : ℕ) → 0 < length xs → n.count + length xs < g.decimation
      → gather_all g (with n levels) xs index ≡ with (record { len = n.len; sum = onward n.sum xs 0 (length xs); count = n.count + length xs; first = first_bin g n index; last = index + length xs - 1 }) levels
  unfolding gather_all
  goes n levels index some small =
      let k = length xs - 1 in
      let e : k + 1 ≡ length xs = omega (arith, some) in
      let last : index + k ≡ index + length xs - 1 = omega (arith, some) in
      into n levels 0 index k (omega (arith, e, small)) (omega (arith, e)) ∙ rw (e, last, zero-add (length xs), drop_of_length-le xs {i = length xs} (omega arith))

  pub ends_block : (n : Near) (levels : List Float) (index : ℕ) → 0 < length xs → n.count + length xs ≡ g.decimation
      → gather_all g (with n levels) xs index ≡ with (ended n index (length xs)) (set levels n.len (level_of g (onward n.sum xs 0 (length xs))))
  unfolding gather_all
  ends_block n levels index some whole = block n levels 0 index (length xs) some whole (omega arith) ∙ rw (zero-add (length xs), drop_of_length-le xs {i = length xs} (omega arith))

  -- ---- four of them

  goes_on : (n : Near) (index k i : ℕ) → first_bin g (ended n index k) i ≡ first_bin g n index
  goes_on n index k i = pick_false (idle (ended n index k)) _ _ (pick_true (eqb 0 0) _ false (eq-eqb 0 0 refl) ∙ ne_eqb (n.len + 1) 0 (λ (e : n.len + 1 ≡ 0). omega (arith, e)))

  pub four : (n : Near) (levels : List Float) (index : ℕ) → n.count ≡ 0 → 1 ≤ g.decimation → length xs ≡ 4 * g.decimation
      → let D = g.decimation in
      gather_all g (with n levels) xs index
      ≡ with (record { len = n.len + 1 + 1 + 1 + 1; sum = zero64; count = 0; first = first_bin g n index; last = index + length xs - 1 })
      (set (set (set (set levels n.len (level_of g (onward n.sum xs 0 D)))
      (n.len + 1) (level_of g (onward zero64 xs D D)))
      (n.len + 1 + 1) (level_of g (onward zero64 xs (D + D) D)))
      (n.len + 1 + 1 + 1) (level_of g (onward zero64 xs (D + D + D) D)))
  unfolding gather_all
  four n levels index z some l =
      let D = g.decimation in
      let n₁ = ended n index D in
      let n₂ = ended n₁ (index + D) D in
      let n₃ = ended n₂ (index + D + D) D in
      let e₁ = set levels n.len (level_of g (onward n.sum xs 0 D)) in
      let e₂ = set e₁ (n.len + 1) (level_of g (onward zero64 xs D D)) in
      let e₃ = set e₂ (n.len + 1 + 1) (level_of g (onward zero64 xs (D + D) D)) in
      let a = block n levels 0 index D (omega arith) (omega arith) (omega arith) in
      let b = block n₁ e₁ D (index + D) D (omega arith) (omega arith) (omega arith) in
      let c = block n₂ e₂ (D + D) (index + D + D) D (omega arith) (omega arith) (omega arith) in
      let d = block n₃ e₃ (D + D + D) (index + D + D + D) D (omega arith) (omega arith) (omega arith) in
      let from : gather_all g (with n₁ e₁) (drop (0 + D) xs) (index + D) ≡ gather_all g (with n₁ e₁) (drop D xs) (index + D) = rw (zero-add D) in
      let last : index + D + D + D + D - 1 ≡ index + length xs - 1 = omega (arith, l) in
      a
      ∙ from
      ∙ b
      ∙ c
      ∙ d
      ∙ rw (drop_of_length-le xs {i = D + D + D + D} (omega arith), last, goes_on n₂ (index + D + D) D (index + D + D + D), goes_on n₁ (index + D) D (index + D + D), goes_on n index D (index + D))

-- four levels stored one after the other, their sums known
pub stores : (g : Geometry) (b : ℕ) (e e₁ e₂ e₃ e₄ : List Float) (s₁ s₂ s₃ s₄ t₁ t₂ t₃ t₄ : Float)
    → s₁ ≡ t₁ → s₂ ≡ t₂ → s₃ ≡ t₃ → s₄ ≡ t₄
    → e₁ ≡ set e b (level_of g s₁) → e₂ ≡ set e₁ (b + 1) (level_of g s₂)
    → e₃ ≡ set e₂ (b + 1 + 1) (level_of g s₃) → e₄ ≡ set e₃ (b + 1 + 1 + 1) (level_of g s₄)
    → e₄ ≡ set (set (set (set e b (level_of g t₁)) (b + 1) (level_of g t₂)) (b + 1 + 1) (level_of g t₃)) (b + 1 + 1 + 1) (level_of g t₄)
stores g b e e₁ e₂ e₃ e₄ s₁ s₂ s₃ s₄ t₁ t₂ t₃ t₄ p₁ p₂ p₃ p₄ q₁ q₂ q₃ q₄ = rw (q₄, q₃, q₂, q₁, p₁, p₂, p₃, p₄)

-- the frame has bins for four blocks
pub four_bins : (g : Geometry) (n : Near) (levels xs : List Float) (index : ℕ) → Fills g n levels xs index → 1 ≤ g.decimation → length xs ≡ 4 * g.decimation → n.len + 3 < g.frame
four_bins g n levels xs index r some l =
    let three : (n.len + 3) * g.decimation ≡ n.len * g.decimation + 3 * g.decimation = add-mul n.len 3 g.decimation in
    has_room (n.len + 3) 0 g.decimation g.frame g.decimation some (omega (arith, r.room, l, three))

-- ---- one part after the other

pub gather_join : (g : Geometry) (t : Seen) (xs ys : List Float) (index : ℕ) → gather_all g t (xs ++ ys) index ≡ gather_all g (gather_all g t xs index) ys (index + length xs)
unfolding gather_all
gather_join g t [] ys index = ap (gather_all g t ys) (omega arith)
gather_join g t (x ∷ xs) ys index = gather_join g (gather g t x index) xs ys (index + 1) ∙ ap (gather_all g (gather_all g (gather g t x index) xs (index + 1)) ys) (omega arith)

abbrev pub Ready : Geometry → Seen → List Float → ℕ → Type 0
Ready g t xs index = Fills g t.near t.levels xs index

ready_next : (g : Geometry) (t : Seen) (x : Float) (xs : List Float) (index : ℕ) → Ready g t (x ∷ xs) index → Ready g (gather g t x index) xs (index + 1)
unfolding all_finite
ready_next g t x xs index r =
    record {
      bounds = r.bounds;
      fit = gather_length g t.near t.levels x index ∙ r.fit;
      partial = gather_partial g t.near t.levels x index r.partial;
      room = omega (arith, r.room, gather_taken g t.near t.levels x index);
      finite = both_right (finite x) _ r.finite;
      small = omega (arith, r.small);
    }

finite_front : (xs ys : List Float) → all_finite (xs ++ ys) ≡ true → all_finite xs ≡ true
unfolding all_finite pick
finite_front [] ys h = refl
finite_front (x ∷ xs) ys h =
    let a : finite x ≡ true = both_left (finite x) (all_finite (xs ++ ys)) h in
    let b = finite_front xs ys (both_right (finite x) _ h) in
    rw (a, b)

ready_front : (g : Geometry) (t : Seen) (xs ys : List Float) (index : ℕ) → Ready g t (xs ++ ys) index → Ready g t xs index
ready_front g t xs ys index r =
    record { bounds = r.bounds; fit = r.fit; partial = r.partial; room = omega (arith, r.room, length-append xs ys); finite = finite_front xs ys r.finite; small = omega (arith, r.small, length-append xs ys) }

ready_rest : (g : Geometry) (t : Seen) (xs ys : List Float) (index : ℕ) → Ready g t (xs ++ ys) index → Ready g (gather_all g t xs index) ys (index + length xs)
unfolding gather_all
ready_rest g t [] ys index r = subst (Ready g t ys) (omega arith) r
ready_rest g t (x ∷ xs) ys index r = subst (Ready g (gather_all g (gather g t x index) xs (index + 1)) ys) (omega arith) (ready_rest g (gather g t x index) xs ys (index + 1) (ready_next g t x (xs ++ ys) index r))

-- ---- the loop: the near side is t, and what is left of a run on t₀ leaves from here on what the whole run leaves

pub record Going (g : Geometry) (t₀ : Seen) (xs : List Float) (index : ℕ) (t : Seen) (rest : List Float) (at : ℕ) : Type 0 where
  pub left : Ready g t rest at
  pub whole : gather_all g t rest at ≡ gather_all g t₀ xs index

module _ (g : Geometry) (t₀ : Seen) (xs : List Float) (index : ℕ) where
  pub starts : Ready g t₀ xs index → Going g t₀ xs index t₀ xs index
  starts r = record { left = r; whole = refl }

  pub ends : (t : Seen) (rest : List Float) (at : ℕ) → length rest ≡ 0 → Going g t₀ xs index t rest at → t ≡ gather_all g t₀ xs index
  unfolding gather_all
  ends t [] at l k = k.whole
  ends t (x ∷ rest) at l k = absurd (omega arith)

  -- the samples that are left are a part and later ones
  module _ (t : Seen) (rest part later : List Float) (at : ℕ) (k : Going g t₀ xs index t rest at) (parted : rest ≡ part ++ later) where
    all : Ready g t (part ++ later) at
    all = subst (λ (ys : List Float). Ready g t ys at) parted k.left

    pub part_ready : Ready g t part at
    part_ready = ready_front g t part later at all

    pub part_gathered : (n : Near) (levels : List Float) → n ≡ (gather_all g t part at).near → levels ≡ (gather_all g t part at).levels
        → Going g t₀ xs index (record { near = n; levels = levels }) later (at + length part)
    part_gathered n levels p q =
        let same : ◌≡◌ {A = Seen} (record { near = n; levels = levels }) (gather_all g t part at) = rw (p, q) in
        record {
          left = subst (λ (u : Seen). Ready g u later (at + length part)) (sym same) (ready_rest g t part later at all);
          whole =
              ap (λ (u : Seen). gather_all g u later (at + length part)) same
              ∙ sym (gather_join g t part later at)
              ∙ ap (λ (ys : List Float). gather_all g t ys at) (sym parted)
              ∙ k.whole;
        }
