-- What the refusals let pass, as the functions that take a sample ask for it.
use Rattle.std.specs.Prelude.{ℕ, ◌+◌, ◌≤◌, ◌<◌, ◌*◌, ◌≡◌, List, true, length, Float}
use Rattle.std.specs.Float.Ieee.Scale.{finite}
use Rattle.answers.specs.Numbers.{limit}
use Rattle.folds.specs.Sums.{all_finite}
use Rattle.scan.specs.Bins.{envelope_len}
use Rattle.scan.specs.declared.Geometry.{Geometry}
use Rattle.scan.specs.declared.Far.{Far}
use Rattle.scan.specs.declared.Near.{Near}
use Rattle.scan_calls.specs.Bounds.{Bounds}

-- a far side whose counts agree
pub record Placed (g : Geometry) (f : Far) : Type 0 where
  pub accepted : f.accepted ≡ f.next * g.decimation + f.count
  pub partial : f.count < g.decimation

-- a push
pub record HearsAll (slack : ℕ) (g : Geometry) (f : Far) (envelope xs : List Float) : Type 0 where
  pub bounds : Bounds g
  pub fit : length envelope ≡ envelope_len slack g
  pub placed : Placed g f
  pub room : f.accepted + length xs ≤ limit
  pub finite : all_finite xs ≡ true

-- samples of one block
pub record HearsPart (slack : ℕ) (g : Geometry) (f : Far) (envelope xs : List Float) : Type 0 where
  pub all : HearsAll slack g f envelope xs
  pub part : f.count + length xs ≤ g.decimation

-- samples that complete the block under way, and are of no more than the next one beside
pub record HearsTwo (slack : ℕ) (g : Geometry) (f : Far) (envelope xs : List Float) : Type 0 where
  pub all : HearsAll slack g f envelope xs
  pub one : g.decimation ≤ f.count + length xs
  pub two : f.count + length xs ≤ 2 * g.decimation

-- four whole blocks, from a block's start on
pub record HearsFour (slack : ℕ) (g : Geometry) (f : Far) (envelope xs : List Float) : Type 0 where
  pub all : HearsAll slack g f envelope xs
  pub start : f.count ≡ 0
  pub four : length xs ≡ 4 * g.decimation

-- n samples are of two blocks at most, or are four whole ones
abbrev pub FarShaped : Geometry → Far → ℕ → Type 0
FarShaped g f n = 2 * g.decimation < f.count + n → (f.count ≡ 0) × (n ≡ 4 * g.decimation)

pub record HearsRun (slack : ℕ) (g : Geometry) (f : Far) (envelope xs : List Float) : Type 0 where
  pub all : HearsAll slack g f envelope xs
  pub shaped : FarShaped g f (length xs)

-- a run of the samples left
pub record RunLength (g : Geometry) (f : Far) (left n : ℕ) : Type 0 where
  pub some : 0 < n
  pub within : n ≤ left
  pub shaped : FarShaped g f n

-- four blocks of d samples
pub record FourBlocks (d : ℕ) (xs : List Float) : Type 0 where
  pub small : d ≤ 192
  pub four : length xs ≡ 4 * d
  pub finite : all_finite xs ≡ true

-- one near sample that is not dropped
pub record Gathers (g : Geometry) (n : Near) (levels : List Float) (x : Float) : Type 0 where
  pub bounds : Bounds g
  pub fit : length levels ≡ g.frame
  pub partial : n.count < g.decimation
  pub room : n.len < g.frame
  pub finite : finite x ≡ true
