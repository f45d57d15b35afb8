-- What the refusals let pass, as the functions behind a run ask for it.
use Rattle.std.specs.Prelude.{ℕ, ◌+◌, ◌*◌, ◌≤◌, ◌<◌, ◌≡◌, List, true, length, take, drop, Float}
use Rattle.answers.specs.Numbers.{limit}
use Rattle.folds.specs.Sums.{all_finite}
use Rattle.scan.specs.State.{taken}
use Rattle.scan.specs.declared.Geometry.{Geometry}
use Rattle.scan.specs.declared.Near.{Near}
use Rattle.scan.specs.declared.Scan.{Scan}
use Rattle.scan_calls.specs.Bounds.{Bounds}
use Rattle.scan_handover.specs.Singles.{Takes}

-- a run of at least one sample, in a state that can take it
pub record HandsOver (s : Scan) (levels xs : List Float) : Type 0 where
  pub takes : Takes s levels
  pub some : 0 < length xs

-- a frame that is not full
pub record Wants (g : Geometry) (n : Near) : Type 0 where
  pub bounds : Bounds g
  pub partial : n.count < g.decimation
  pub room : n.len < g.frame

-- samples that go into the frame
pub record Fills (g : Geometry) (n : Near) (levels xs : List Float) (index : ℕ) : Type 0 where
  pub bounds : Bounds g
  pub fit : length levels ≡ g.frame
  pub partial : n.count < g.decimation
  pub room : taken g n + length xs ≤ g.frame * g.decimation
  pub finite : all_finite xs ≡ true
  pub small : index + length xs ≤ limit

-- at least one of them, all of one block
pub record FillsBlock (g : Geometry) (n : Near) (levels xs : List Float) (index : ℕ) : Type 0 where
  pub all : Fills g n levels xs index
  pub some : 0 < length xs
  pub part : n.count + length xs ≤ g.decimation

-- four whole blocks
pub record FillsFour (g : Geometry) (n : Near) (levels xs : List Float) (index : ℕ) : Type 0 where
  pub all : Fills g n levels xs index
  pub start : n.count ≡ 0
  pub four : length xs ≡ 4 * g.decimation

-- k samples are of one block, or are four whole ones
abbrev pub NearShaped : Geometry → Near → ℕ → Type 0
NearShaped g n k = g.decimation < n.count + k → (n.count ≡ 0) × (k ≡ 4 * g.decimation)

pub record FillsRun (g : Geometry) (n : Near) (levels xs : List Float) (index : ℕ) : Type 0 where
  pub all : Fills g n levels xs index
  pub some : 0 < length xs
  pub shaped : NearShaped g n (length xs)

-- so many of the samples left
pub record Reach (g : Geometry) (n : Near) (left k : ℕ) : Type 0 where
  pub some : 0 < k
  pub within : k ≤ left
  pub shaped : NearShaped g n k

-- those of a run from one place up to another
pub record FillsBetween (g : Geometry) (n : Near) (levels xs : List Float) (first from end : ℕ) : Type 0 where
  pub within : end ≤ length xs
  pub all : from < end → Fills g n levels (drop from (take end xs)) (first + from)
