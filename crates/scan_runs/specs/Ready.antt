-- What the functions behind a run test, and what they may count on. What a run does is defined in Runs.
use Rattle.std.specs.Prelude.{◌≡◌, ℕ, ◌+◌, ◌<◌, ◌≤◌, Bool, false, not, List, [], ◌∷◌, length, ◌==◌, nat_lt, Float}
use Rattle.std.specs.Float.Ieee.Scale.{finite}
use Rattle.answers.specs.Pick.{pick, both, either}
use Rattle.answers.specs.Numbers.{limit}
use Rattle.scan.specs.Bins.{near_len}
use Rattle.scan.specs.State.{finished, full, idle, due, first_refusals}
use Rattle.scan.specs.Blocks.{Seen, gather, dropped, held_at, summed}
use Rattle.scan.specs.declared.Geometry.{Geometry}
use Rattle.scan.specs.declared.Far.{Far}
use Rattle.scan.specs.declared.Near.{Near}
use Rattle.scan.specs.declared.Verdict.{Verdict}
use Rattle.scan.specs.declared.Scan.{Scan}

-- the next sample that is taken completes the frame's last bin
abbrev pub fills : Geometry → Near → Bool
fills g n = both (n.count + 1 == g.decimation) (n.len + 1 == g.frame)

-- A sample passes in a state that was judged. The running sum is read, since a sum that overflows breaks a rule of the state.
unfoldable pub passable : Geometry → Near → Float → ℕ → Bool
passable g n x index =
    both (finite n.sum)
    (both (nat_lt index limit)
    (either (dropped g (held_at n index) index)
    (both (finite x)
    (not (fills g (held_at n index))))))

-- what such a sample leaves
abbrev pub after_sample : Geometry → Seen → Float → ℕ → Seen
after_sample g t x index =
    let u : Seen = record { near = held_at t.near index; levels = t.levels } in
    pick (dropped g u.near index) u (gather g u x index)

-- ---- samples that go on with a block and do not complete it: they are summed at once

unfoldable pub total_of : Float → List Float → Float
total_of sum [] = sum
total_of sum (x ∷ xs) = total_of (summed sum x) xs

abbrev pub moved : Near → List Float → Near
moved n xs = record { len = n.len; sum = total_of n.sum xs; count = n.count + length xs; first = n.first; last = n.last + length xs }

-- none of them is taken so where the sum is not finite
abbrev pub stretched : Near → List Float → Near
stretched n xs = pick (finite (total_of n.sum xs)) (moved n xs) n

-- so many of the samples that are left can be summed at once, and one is left
pub record Reaches (g : Geometry) (n : Near) (index left m : ℕ) : Type 0 where
  pub within : m < left
  pub partial : n.count + m < g.decimation
  pub small : 0 < m → index + m ≤ limit
  pub underway : 0 < m → idle n ≡ false
  pub follows : 0 < m → index ≡ n.last + 1

-- ---- a state in which a sample can be taken: 1 to 3 refuse nothing, it is not finished, and no full frame waits
pub record Open (s : Scan) (levels : List Float) : Type 0 where
  pub judged : first_refusals s (length levels == near_len (due s)) ≡ 0
  pub unfinished : finished s.verdict ≡ false
  pub unfilled : full s.geometry s.near ≡ false

-- ---- the near side alone, of some state in which a sample can be taken

abbrev pub scan_of : Geometry → Far → Near → Verdict → Scan
scan_of g f n v = record { geometry = g; far = f; near = n; verdict = v }

pub record OpenNear (g : Geometry) (n : Near) (levels : List Float) : Type 0 where
  pub far : Far
  pub verdict : Verdict
  pub opened : Open (scan_of g far n verdict) levels
