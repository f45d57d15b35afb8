-- Where the samples of a run stand: how many are dropped before a frame begins, how many a frame still wants, and both after one sample more.
use Prim.Native.Nat.{ℕ, ◌+◌, ◌-◌, ◌*◌, ◌%◌, ◌≤◌, ◌<◌}
use mathlib.Core.Path.{◌≡◌, refl, sym, ap, ◌∙◌}
use mathlib.Core.List.{List}
use mathlib.Core.Bool.{Bool, true, false, not, true≢false}
use mathlib.Core.Logic.{inl, inr}
use native.Mathlib.Nat.{mod-lt, mod_self, mod-eq_of_lt, mod-add-mod, mul-le-mul_right, add-mul, one-mul, div-mul-le_self}
use native.Mathlib.Omega.{arith}
use lib.Dec.{T, leb, ltb, eqb}
use lib.ListN.{length, length-set}
use lib.Ieee.{Float, binary32, binary64, fits}
use lib.Ieee.Scale.{finite}
use borrow.Author.Tests.{leb-true, ltb-true, lt-ltb, le-leb, eqb-true, eqb-false, eq-eqb, ne_eqb, not-false}
use Rattle.answers.specs.Pick.{either, pick_true, pick_false, pick_case}
use Rattle.answers.specs.Numbers.{limit}
use Rattle.answers.proofs.Refusals.{passed}
use Rattle.floats.specs.Functions.{zero64}
use Rattle.floats.proofs.Compare.{le_or_lt}
use Rattle.scan.specs.Bins.{in_table, near_len}
use Rattle.scan.specs.State.{emptied, full, idle, taken, due, far_rule, near_rule, verdict_rule, keeps_rules, geometry_rule, first_refusals}
use Rattle.scan.specs.Blocks.{Seen, gather, on_grid, dropped, hole, held_at, first_bin}
use Rattle.scan.specs.Calls.{with_near}
use Rattle.scan.specs.declared.Geometry.{Geometry}
use Rattle.scan.specs.declared.Near.{Near}
use Rattle.scan.specs.declared.Scan.{Scan}
use Rattle.scan.proofs.Laws.{both_and, both_left, both_right, either_or}
use Rattle.scan.proofs.Held.{Placed, emptied_idle, block_placed, stands}
use Rattle.scan_calls.specs.Bounds.{Bounds}
use Rattle.scan_calls.proofs.Passing.{pass, fits as lengths_fit}
use Rattle.scan_handover.specs.Handover.{lead, wants}
use Rattle.scan_handover.specs.Singles.{Takes}
use Rattle.scan_handover.proofs.Sums.{summed_finite, summed_fits}

-- ---- the samples up to the grid, D samples a bin

abbrev to_grid : ℕ → ℕ → ℕ
to_grid D index = (D - index % D) % D

pub on_grid_lem : (D index : ℕ) → 0 < D → index % D ≡ 0 → to_grid D index ≡ 0
on_grid_lem D index p z = let e : D - index % D ≡ D = omega (arith, z) in ap (λ (k : ℕ). k % D) e ∙ mod_self D

pub off_grid : (D index : ℕ) → 0 < D → (index % D ≡ 0 → ⊥) → to_grid D index ≡ D - index % D
off_grid D index p z = mod-eq_of_lt (omega (arith, z, mod-lt index p))

pub one_nearer : (D index : ℕ) → 0 < D → (index % D ≡ 0 → ⊥) → to_grid D (index + 1) + 1 ≡ to_grid D index
one_nearer D index p z =
    let l = mod-lt index p in
    let next : (index + 1) % D ≡ (index % D + 1) % D = sym (mod-add-mod index D 1) in
    let here = off_grid D index p z in
    elim (le_or_lt D (index % D + 1)) [
      | inl a ↦
          let e : index % D + 1 ≡ D = omega (arith, a, l) in
          let there = on_grid_lem D (index + 1) p (next ∙ ap (λ (k : ℕ). k % D) e ∙ mod_self D) in
          omega (arith, here, there, e)
      | inr b ↦
          let e : (index + 1) % D ≡ index % D + 1 = next ∙ mod-eq_of_lt b in
          let there = off_grid D (index + 1) p (λ (y : (index + 1) % D ≡ 0). omega (arith, e, y)) in
          omega (arith, here, there, e, b)
    ]

-- ---- a frame of so many bins

pub room_left : (len count D frame : ℕ) → count < D → len < frame → len * D + count < frame * D
room_left len count D frame c l =
    let h : (len + 1) * D ≤ frame * D = mul-le-mul_right D (omega (arith, l)) in
    omega (arith, h, add-mul len 1 D, one-mul D, c)

no_room : (len count D frame : ℕ) → count < D → len ≤ frame → frame * D ≤ len * D + count → len ≡ frame
no_room len count D frame c l h = elim (le_or_lt frame len) [
  | inl a ↦ omega (arith, a, l)
  | inr b ↦ absurd (omega (arith, h, room_left len count D frame c b))
]

-- ---- a near side that takes a sample

pub record Standing (g : Geometry) (n : Near) : Type 0 where
  pub partial : n.count < g.decimation
  pub room : n.len < g.frame
  pub finite : finite n.sum ≡ true
  pub begins : n.first * g.decimation < limit
  pub placed : Placed g n

near_standing : (g : Geometry) (n : Near) → near_rule g n ≡ true → full g n ≡ false → Standing g n
unfolding near_rule
near_standing g n h e =
    let a = both_right (ltb n.count g.decimation) _ h in
    let b = both_right (either (not (full g n)) (eqb n.count 0)) _ a in
    let c = both_right (leb n.len g.frame) _ b in
    let d = both_right (finite n.sum) _ c in
    record {
      partial = ltb-true n.count g.decimation (both_left _ _ h);
      room = omega (arith, leb-true n.len g.frame (both_left _ _ b), eqb-false n.len g.frame e);
      finite = both_left _ _ c;
      begins = ltb-true (n.first * g.decimation) limit (both_left _ _ d);
      placed = λ i. eqb-true (n.last + 1) _ (sym (pick_false (idle n) true _ i) ∙ both_right (ltb (n.first * g.decimation) limit) _ d);
    }

standing_near : (g : Geometry) (n : Near) → Standing g n → near_rule g n ≡ true
unfolding near_rule
standing_near g n k =
    both_and _ _ (lt-ltb n.count g.decimation k.partial)
    (both_and _ _ (pick_true _ _ _ (ap not (ne_eqb n.len g.frame (λ (e : n.len ≡ g.frame). omega (arith, k.room, e)))))
    (both_and _ _ (le-leb n.len g.frame (omega (arith, k.room)))
    (both_and _ _ k.finite
    (both_and _ _ (lt-ltb (n.first * g.decimation) limit k.begins)
    (either_or (idle n) _ (λ i. eq-eqb _ _ (k.placed i)))))))

pub standing : (s : Scan) (levels : List Float) → Takes s levels → Standing s.geometry s.near
unfolding keeps_rules
standing s levels k =
    let rules = (pass s _ k.judged).rules in
    let r = both_right (far_rule s.geometry s.far) _ (both_right (geometry_rule s) _ rules) in
    near_standing s.geometry s.near (both_left _ _ r) k.unfilled

pub bounded : (s : Scan) (levels : List Float) → Takes s levels → Bounds s.geometry
bounded s levels k = (pass s _ k.judged).bounds

pub fitting : (s : Scan) (levels : List Float) → Takes s levels → length levels ≡ s.geometry.frame
fitting s levels k = lengths_fit s (length levels) near_len k.judged

-- another near side takes its place
pub standing_takes : (s : Scan) (levels : List Float) → Takes s levels → (n : Near) (others : List Float) → length others ≡ length levels → Standing s.geometry n → Takes (with_near s n) others
unfolding first_refusals keeps_rules verdict_rule
standing_takes s levels k n others same t =
    let one = passed (in_table s.geometry.rate s.geometry.ceiling) 0 _ k.judged in
    let two = passed (eqb (length levels) (near_len (due s))) 1 _ one.1 in
    let rules = (passed (keeps_rules s) 2 _ two.1).0 in
    let r₁ = both_right (geometry_rule s) _ rules in
    let r₂ = both_right (far_rule s.geometry s.far) _ r₁ in
    let v = both_left _ _ (both_right (near_rule s.geometry s.near) _ r₂) in
    let fit : eqb (length others) (near_len (due s)) ≡ true = ap (λ (z : ℕ). eqb z (near_len (due s))) same ∙ two.0 in
    let keeps : keeps_rules (with_near s n) ≡ true =
    both_and _ _ (both_left _ _ rules) (both_and _ _ (both_left _ _ r₁) (both_and _ _ (standing_near s.geometry n t) (both_and _ _ v (pick_true _ _ _ (ap not k.unfinished))))) in
    record {
      judged = pick_true _ _ _ one.0 ∙ pick_true _ _ _ fit ∙ pick_true _ _ _ keeps;
      unfinished = k.unfinished;
      unfilled = ne_eqb n.len s.geometry.frame (λ (e : n.len ≡ s.geometry.frame). omega (arith, t.room, e));
    }

-- ---- the near side as a sample finds it

zero_finite : finite zero64 ≡ true
zero_finite = refl

pub held_standing : (g : Geometry) (n : Near) (index : ℕ) → Bounds g → Standing g n → Standing g (held_at n index)
held_standing g n index b k =
    pick_case (Standing g) (hole n index) (emptied n) n
    (λ h. record {
      partial = omega (arith, b.some_decimation);
      room = omega (arith, b.some_frame);
      finite = zero_finite;
      begins = k.begins;
      placed = λ i. absurd (true≢false (sym (emptied_idle n) ∙ i));
    })
    (λ h. k)

pub held_idle : (n : Near) (index : ℕ) → idle n ≡ true → held_at n index ≡ n
held_idle n index i = pick_false (hole n index) _ _ (pick_false (not (idle n)) _ false (ap not i))

pub held_on : (n : Near) (index : ℕ) → index ≡ n.last + 1 → held_at n index ≡ n
held_on n index e = pick_false (hole n index) _ _ (pick_case (λ (z : Bool). z ≡ false) (not (idle n)) _ false (λ h. ap not (eq-eqb index (n.last + 1) e)) (λ h. refl))

-- a sample finds what it finds
pub held_twice : (n : Near) (index : ℕ) → held_at (held_at n index) index ≡ held_at n index
held_twice n index = pick_case (λ (m : Near). held_at m index ≡ m) (hole n index) (emptied n) n (λ h. held_idle (emptied n) index (emptied_idle n)) (λ h. pick_false (hole n index) _ _ h)

-- ---- how many are dropped

module _ (g : Geometry) (n : Near) (index : ℕ) (some : 0 < g.decimation) where
  pub none_dropped : dropped g n index ≡ false → lead g n index ≡ 0
  none_dropped d = pick_case (λ (z : ℕ). z ≡ 0) (idle n) _ 0
      (λ i. on_grid_lem g.decimation index some (eqb-true (index % g.decimation) 0 (not-false (on_grid g index) (sym (pick_true (idle n) _ false i) ∙ d)))) (λ i. refl)

  pub not_idle_leads : idle n ≡ false → lead g n index ≡ 0
  not_idle_leads i = pick_false (idle n) _ 0 i

  module _ (d : dropped g n index ≡ true) where
    pub dropped_idle : idle n ≡ true
    dropped_idle = both_left (idle n) _ d

    off : index % g.decimation ≡ 0 → ⊥
    off e = true≢false (sym (both_right (idle n) _ d) ∙ ap not (eq-eqb (index % g.decimation) 0 e))

    pub one_dropped : lead g n (index + 1) + 1 ≡ lead g n index
    one_dropped = ap (λ (z : ℕ). z + 1) (pick_true (idle n) _ 0 dropped_idle) ∙ one_nearer g.decimation index some off ∙ sym (pick_true (idle n) _ 0 dropped_idle)

pub leads_dropped : (g : Geometry) (n : Near) (index : ℕ) → 0 < g.decimation → (lead g n index ≡ 0 → ⊥) → dropped g n index ≡ true
leads_dropped g n index some h = go (dropped g n index) refl
  where
    go : (b : Bool) → dropped g n index ≡ b → b ≡ true
    go true e = refl
    go false e = absurd (h (none_dropped g n index some e))

pub leads_none : (g : Geometry) (n : Near) (index : ℕ) → 0 < g.decimation → lead g n index ≡ 0 → dropped g n index ≡ false
leads_none g n index some h = go (dropped g n index) refl
  where
    go : (b : Bool) → dropped g n index ≡ b → b ≡ false
    go true e = absurd (omega (arith, h, one_dropped g n index some e))
    go false e = refl

-- ---- one sample more in the frame

module _ (g : Geometry) (n : Near) (levels : List Float) (x : Float) (index : ℕ) where
  abbrev after : Seen
  after = gather g (record { near = n; levels = levels }) x index

  pub gather_last : after.near.last ≡ index
  unfolding gather
  gather_last = pick_case (λ (z : Seen). z.near.last ≡ index) (eqb (n.count + 1) g.decimation) _ _ (λ t. refl) (λ t. refl)

  pub gather_busy : idle after.near ≡ false
  unfolding gather
  gather_busy =
      pick_case (λ (z : Seen). idle z.near ≡ false) (eqb (n.count + 1) g.decimation) _ _
      (λ t. pick_true (eqb 0 0) _ false (eq-eqb 0 0 refl) ∙ ne_eqb (n.len + 1) 0 (λ (e : n.len + 1 ≡ 0). omega arith))
      (λ t. pick_false (eqb (n.count + 1) 0) _ false (ne_eqb (n.count + 1) 0 (λ (e : n.count + 1 ≡ 0). omega arith)))

  pub gather_length : length after.levels ≡ length levels
  unfolding gather
  gather_length = pick_case (λ (z : Seen). length z.levels ≡ length levels) (eqb (n.count + 1) g.decimation) _ _ (λ t. simp length-set) (λ t. refl)

  pub gather_taken : taken g after.near ≡ taken g n + 1
  unfolding gather
  gather_taken =
      pick_case (λ (z : Seen). taken g z.near ≡ taken g n + 1) (eqb (n.count + 1) g.decimation) _ _
      (λ t. block_placed g n (eqb-true (n.count + 1) g.decimation t)) (λ t. omega arith)

  pub gather_partial : n.count < g.decimation → after.near.count < g.decimation
  unfolding gather
  gather_partial p =
      pick_case (λ (z : Seen). z.near.count < g.decimation) (eqb (n.count + 1) g.decimation) _ _
      (λ t. omega (arith, p)) (λ t. omega (arith, p, eqb-false (n.count + 1) g.decimation t))

  pub gather_len : n.len < g.frame → after.near.len ≤ g.frame
  unfolding gather
  gather_len l = pick_case (λ (z : Seen). z.near.len ≤ g.frame) (eqb (n.count + 1) g.decimation) _ _ (λ t. omega (arith, l)) (λ t. omega (arith, l))

  pub gather_fits : T (fits binary64 after.near.sum)
  unfolding gather
  gather_fits = pick_case (λ (z : Seen). T (fits binary64 z.near.sum)) (eqb (n.count + 1) g.decimation) _ _ (λ t. unfold fits in tt) (λ t. summed_fits n.sum x)

  gather_first : after.near.first ≡ first_bin g n index
  unfolding gather
  gather_first = pick_case (λ (z : Seen). z.near.first ≡ first_bin g n index) (eqb (n.count + 1) g.decimation) _ _ (λ t. refl) (λ t. refl)

  module _ (k : Standing g n) where
    -- the frame is full exactly where it wanted one sample
    pub gather_full : full g after.near ≡ eqb (wants g n) 1
    gather_full = go (eqb (wants g n) 1) refl
      where
        go : (b : Bool) → eqb (wants g n) 1 ≡ b → full g after.near ≡ b
        go true e =
            eq-eqb _ _
            (no_room after.near.len after.near.count g.decimation g.frame (gather_partial k.partial) (gather_len k.room)
            (omega (arith, eqb-true (wants g n) 1 e, gather_taken)))
        go false e =
            ne_eqb _ _
            (λ (f : after.near.len ≡ g.frame). eqb-false (wants g n) 1 e
            (let most : after.near.len * g.decimation ≡ g.frame * g.decimation = ap (λ (z : ℕ). z * g.decimation) f in
            omega (arith, most, gather_taken, room_left n.len n.count g.decimation g.frame k.partial k.room)))

    pub gather_wants : wants g after.near + 1 ≡ wants g n
    gather_wants = omega (arith, gather_taken, room_left n.len n.count g.decimation g.frame k.partial k.room)

    module _ (a : T (fits binary64 n.sum)) (b : T (fits binary32 x)) (h : finite x ≡ true) (next : idle n ≡ false → index ≡ n.last + 1) (d : dropped g n index ≡ false) (small : index < limit) (more : 1 < wants g n) where
      gather_finite : finite after.near.sum ≡ true
      unfolding gather
      gather_finite = pick_case (λ (z : Seen). finite z.near.sum ≡ true) (eqb (n.count + 1) g.decimation) _ _ (λ t. zero_finite) (λ t. summed_finite n.sum x a k.finite b h)

      begins_at : first_bin g n index * g.decimation < limit
      begins_at = pick_case (λ (z : ℕ). z * g.decimation < limit) (idle n) _ _ (λ t. omega (arith, div-mul-le_self index g.decimation, small)) (λ t. k.begins)

      pub gather_standing : Standing g after.near
      gather_standing =
          let place = stands g n index k.placed next d in
          record {
            partial = gather_partial k.partial;
            room = omega (arith, gather_len k.room, eqb-false after.near.len g.frame (gather_full ∙ ne_eqb (wants g n) 1 (λ (e : wants g n ≡ 1). omega (arith, more, e))));
            finite = gather_finite;
            begins = rw gather_first begins_at;
            placed = λ i. ap (λ (z : ℕ). z + 1) gather_last ∙ place ∙ rw (gather_first, gather_taken);
          }
