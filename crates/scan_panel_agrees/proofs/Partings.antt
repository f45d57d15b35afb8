-- Partings and splits: the test of a parting is the paper's sentence; a split is a parting; and where there is none, a full frame is uncovered by both scans or by neither.
use Prim.Native.Nat.{ℕ, ◌+◌, ◌-◌, ◌≤◌, ◌<◌, max}
use mathlib.Core.Path.{◌≡◌, refl, sym, ap, ◌∙◌}
use mathlib.Core.Bool.{Bool, true, false, not, true≢false}
use native.Mathlib.Omega.{arith}
use lib.Dec.{ltb}
use borrow.Author.Tests.{ltb-true, ltb-false, lt-ltb, not-true}
use Rattle.answers.specs.Pick.{pick, either, pick_false}
use Rattle.scan.specs.State.{World, full}
use Rattle.scan.specs.Scoring.{uncovered}
use Rattle.scan.specs.Calls.{is_uncovered}
use Rattle.scan.specs.declared.Geometry.{Geometry}
use Rattle.scan.proofs.Laws.{either_or, both_and, both_left, both_right}
use Rattle.scan_panel_agrees.specs.Agreement.{oldest, parting, splitting, Holds}

either_neither : (a b : Bool) → either a b ≡ false → (a ≡ false) × (b ≡ false)
unfolding pick
either_neither true b e = absurd (true≢false e)
either_neither false b e = (refl, e)

-- ---- covered: the window starts at bin 0 or later, and at the oldest bin that is kept or later

pub record Covered (slack : ℕ) (w : World) : Type 0 where
  pub starts : w.scan.geometry.span ≤ w.scan.near.first
  pub keeps : oldest slack w ≤ w.scan.near.first - w.scan.geometry.span

pub covered : (slack : ℕ) (w : World) → is_uncovered slack w ≡ false → Covered slack w
unfolding uncovered
covered slack w u =
    let g = w.scan.geometry in
    let s = w.scan.near.first in
    let n = either_neither (ltb s g.span) (ltb (s - g.span) (oldest slack w)) u in
    record { starts = ltb-false s g.span n.0; keeps = ltb-false (s - g.span) (oldest slack w) n.1 }

-- a frame that starts at bin span or later is uncovered where it starts before the oldest bin
pub behind : (slack : ℕ) (w : World) → is_uncovered slack w ≡ true → w.scan.geometry.span ≤ w.scan.near.first → w.scan.near.first - w.scan.geometry.span < oldest slack w
unfolding uncovered
behind slack w u l = go (ltb s g.span) refl u
  where
    g : Geometry
    g = w.scan.geometry

    s : ℕ
    s = w.scan.near.first

    go : (a : Bool) → ltb s g.span ≡ a → either a (ltb (s - g.span) (oldest slack w)) ≡ true → s - g.span < oldest slack w
    go true e h = absurd (omega (arith, ltb-true s g.span e))
    go false e h = ltb-true (s - g.span) (oldest slack w) (sym (pick_false false true _ refl) ∙ h)

module _ (wide narrow : ℕ) (w : World) where
  abbrev g : Geometry
  g = w.scan.geometry

  abbrev s : ℕ
  s = w.scan.near.first

  -- ---- a parting, line by line

  pub record Parted : Type 0 where
    pub waits : full g w.scan.near ≡ true
    pub early : s - g.span < oldest narrow w
    pub reaches : oldest wide w < s + g.frame

  pub parted : parting wide narrow w ≡ true → Parted
  unfolding parting
  parted p =
      let a = both_right (full g w.scan.near) _ p in
      record {
        waits = both_left (full g w.scan.near) _ p;
        early = ltb-true (s - g.span) (oldest narrow w) (both_left (ltb (s - g.span) (oldest narrow w)) _ a);
        reaches = ltb-true (oldest wide w) (s + g.frame) (both_right (ltb (s - g.span) (oldest narrow w)) _ a);
      }

  pub is_parting : Parted → parting wide narrow w ≡ true
  unfolding parting
  is_parting p = both_and _ _ p.waits (both_and _ _ (lt-ltb (s - g.span) (oldest narrow w) p.early) (lt-ltb (oldest wide w) (s + g.frame) p.reaches))

  -- at one the narrow scan is uncovered
  parted_behind : parting wide narrow w ≡ true → is_uncovered narrow w ≡ true
  unfolding uncovered
  parted_behind p = either_or _ _ (λ t. lt-ltb (s - g.span) (oldest narrow w) (parted p).early)

  -- ---- a split, line by line

  pub record Split : Type 0 where
    pub waits : full g w.scan.near ≡ true
    pub narrowly : is_uncovered narrow w ≡ true
    pub widely : is_uncovered wide w ≡ false

  pub split : splitting wide narrow w ≡ true → Split
  unfolding splitting
  split p =
      let a = both_right (full g w.scan.near) _ p in
      record { waits = both_left (full g w.scan.near) _ p; narrowly = both_left (is_uncovered narrow w) _ a; widely = not-true (is_uncovered wide w) (both_right (is_uncovered narrow w) _ a) }

  is_splitting : full g w.scan.near ≡ true → is_uncovered narrow w ≡ true → is_uncovered wide w ≡ false → splitting wide narrow w ≡ true
  unfolding splitting
  is_splitting f u c = both_and _ _ f (both_and _ _ u (ap not c))

  module _ (less : narrow < wide) where
    -- what is uncovered by the wide scan is uncovered by the narrow one
    wider : is_uncovered narrow w ≡ false → is_uncovered wide w ≡ true → ⊥
    wider n u = let c = covered narrow w n in omega (arith, c.keeps, behind wide w u c.starts)

    -- where there is no split, a full frame is uncovered by both or by neither
    unsplit : full g w.scan.near ≡ true → splitting wide narrow w ≡ false → is_uncovered narrow w ≡ is_uncovered wide w
    unsplit f n = go (is_uncovered narrow w) (is_uncovered wide w) refl refl
      where
        go : (a b : Bool) → is_uncovered narrow w ≡ a → is_uncovered wide w ≡ b → a ≡ b
        go true true x y = refl
        go false false x y = refl
        go true false x y = absurd (true≢false (sym (is_splitting f x y) ∙ n))
        go false true x y = absurd (wider x y)

    module _ (some : 0 < g.frame) where
      -- each split is a parting
      pub split_parts : splitting wide narrow w ≡ true → parting wide narrow w ≡ true
      split_parts p =
          let q = split p in
          let c = covered wide w q.widely in
          is_parting (record { waits = q.waits; early = behind narrow w q.narrowly c.starts; reaches = omega (arith, c.keeps) })

      unparted : parting wide narrow w ≡ false → splitting wide narrow w ≡ false
      unparted n = go (splitting wide narrow w) refl
        where
          go : (b : Bool) → splitting wide narrow w ≡ b → b ≡ false
          go true e = absurd (true≢false (sym (split_parts e) ∙ n))
          go false e = refl

      -- ---- the paper's words

      -- such a bin: the later of the window's first and the oldest that the wide scan keeps
      pub parting_holds : parting wide narrow w ≡ true → Holds wide narrow w
      parting_holds p =
          let q = parted p in
          record { waits = q.waits; bin = max (s - g.span) (oldest wide w); from = omega arith; to = omega (arith, q.reaches); kept = omega arith; overwritten = omega (arith, q.early) }

      pub holds_parting : Holds wide narrow w → parting wide narrow w ≡ true
      holds_parting h = is_parting (record { waits = h.waits; early = omega (arith, h.from, h.overwritten); reaches = omega (arith, h.kept, h.to) })

-- ---- what the proofs ask of a test: it holds at a full frame that the narrow scan does not cover, and wherever it fails the two scans cover a full frame alike

pub record Parts (wide narrow : ℕ) (test : World → Bool) : Type 0 where
  pub here : (w : World) → test w ≡ true → (full w.scan.geometry w.scan.near ≡ true) × (is_uncovered narrow w ≡ true)
  pub elsewhere : (w : World) → 0 < w.scan.geometry.frame → full w.scan.geometry w.scan.near ≡ true → test w ≡ false → is_uncovered narrow w ≡ is_uncovered wide w

-- so do a parting, a split, and each test between the two
module _ (wide narrow : ℕ) (less : narrow < wide) where
  pub between : (test : World → Bool) → ((w : World) → test w ≡ true → parting wide narrow w ≡ true) → ((w : World) → 0 < w.scan.geometry.frame → test w ≡ false → splitting wide narrow w ≡ false) → Parts wide narrow test
  between test p q =
      record { here = λ w e. ((parted wide narrow w (p w e)).waits, parted_behind wide narrow w (p w e)); elsewhere = λ w some f n. unsplit wide narrow w less f (q w some n) }

  pub partings : Parts wide narrow (parting wide narrow)
  partings = between (parting wide narrow) (λ w e. e) (λ w some n. unparted wide narrow w less some n)

  pub splittings : Parts wide narrow (splitting wide narrow)
  splittings = record { here = λ w e. ((split wide narrow w e).waits, (split wide narrow w e).narrowly); elsewhere = λ w some f n. unsplit wide narrow w less f n }
