-- SPECIFICATION 6, blocks: how far and near samples become levels.
use Rattle.std.specs.Prelude.{ℕ, ◌+◌, ◌/◌, ◌%◌, List, [], ◌∷◌, Bool, not, eqb, set, Float}
use Rattle.std.specs.Float.{binary64}
use Rattle.std.specs.Float.Ieee.{add, div}
use Rattle.answers.specs.Pick.{pick, both}
use Rattle.floats.specs.Functions.{zero64, whole, magnitude, narrow}
use Rattle.scan.specs.Bins.{envelope_len}
use Rattle.scan.specs.State.{emptied, idle}
use Rattle.scan.specs.declared.Geometry.{Geometry}
use Rattle.scan.specs.declared.Far.{Far}
use Rattle.scan.specs.declared.Near.{Near}

-- ---- a block's level: the f64 sum of absolute values in order, divided by D, narrowed to f32

abbrev pub summed : Float → Float → Float
summed sum x = add binary64 sum (magnitude x)

abbrev pub level_of : Geometry → Float → Float
level_of g sum = narrow (div binary64 sum (whole g.decimation))

-- ---- far: block j covers samples jD to jD + D - 1, and its level is put at j modulo the envelope length

-- the far side: its numbers, and the envelope
pub record Heard : Type 0 where
  pub far : Far
  pub envelope : List Float

abbrev pub with_sample : Far → Float → Far
with_sample f x = record { next = f.next; sum = summed f.sum x; count = f.count + 1; accepted = f.accepted + 1 }

abbrev pub with_block : Far → Far
with_block f = record { next = f.next + 1; sum = zero64; count = 0; accepted = f.accepted + 1 }

-- one sample: it completes the block, whose level is stored, or it goes on with it
unfoldable pub hear : ℕ → Geometry → Heard → Float → Heard
hear slack g h x =
    pick (eqb (h.far.count + 1) g.decimation)
    (record { far = with_block h.far; envelope = set h.envelope (h.far.next % envelope_len slack g) (level_of g (summed h.far.sum x)) })
    (record { far = with_sample h.far x; envelope = h.envelope })

unfoldable pub hear_all : ℕ → Geometry → Heard → List Float → Heard
hear_all slack g h [] = h
hear_all slack g h (x ∷ xs) = hear_all slack g (hear slack g h x) xs

-- ---- near: a frame begins only on an index that is a multiple of D; samples before one are dropped. Later samples are consecutive.
-- A sample whose index is not the last one plus one meets a hole: the frame under way is dropped, and the sample may begin another (request d).

abbrev pub on_grid : Geometry → ℕ → Bool
on_grid g index = eqb (index % g.decimation) 0

-- a frame, or a block of one, is under way and does not go on with this index, be it larger, equal or smaller
abbrev pub hole : Near → ℕ → Bool
hole n index = both (not (idle n)) (not (eqb index (n.last + 1)))

-- the near side as a sample with this index finds it
abbrev pub held_at : Near → ℕ → Near
held_at n index = pick (hole n index) (emptied n) n

-- no frame is under way, and the sample begins none
abbrev pub dropped : Geometry → Near → ℕ → Bool
dropped g n index = both (idle n) (not (on_grid g index))

-- the frame's first bin: this sample's, where it begins the frame
abbrev pub first_bin : Geometry → Near → ℕ → ℕ
first_bin g n index = pick (idle n) (index / g.decimation) n.first

-- the near side: its numbers, and the near levels
pub record Seen : Type 0 where
  pub near : Near
  pub levels : List Float

-- a sample that is not dropped: it completes the block, whose level is the frame's next bin, or it goes on with it
unfoldable pub gather : Geometry → Seen → Float → ℕ → Seen
gather g t x index =
    pick (eqb (t.near.count + 1) g.decimation)
    (record {
      near = record { len = t.near.len + 1; sum = zero64; count = 0; first = first_bin g t.near index; last = index };
      levels = set t.levels t.near.len (level_of g (summed t.near.sum x));
    })
    (record {
      near = record { len = t.near.len; sum = summed t.near.sum x; count = t.near.count + 1; first = first_bin g t.near index; last = index };
      levels = t.levels;
    })
