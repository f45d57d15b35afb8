-- Samples that go into the frame, all at once.
use Prim.Native.Nat.{ℕ, suc, ◌+◌, ◌≤◌}
use mathlib.Core.Path.{◌≡◌, refl, sym, ap, ◌∙◌}
use mathlib.Core.List.{List, [], ◌∷◌, ◌++◌}
use native.Mathlib.Nat.{add-zero}
use native.Mathlib.Numerals.{add-one}
use native.Mathlib.Omega.{arith}
use lib.ListN.{length, take, drop, set}
use lib.Seq.{sets, sets-eq, paste, length-take-le}
use lib.Ieee.{Float}
use Rattle.fine.specs.State.{with_frames}
use Rattle.fine.specs.declared.Fine.{Fine}
use Rattle.fine_gate.specs.Gate.{took_one}
use Rattle.fine_handover.specs.Handover.{filled_by}
use Rattle.fine_handover.specs.Ready.{longer_by}

one_more : (n k : ℕ) → n + 1 + k ≡ n + suc k
one_more n k = omega arith

pub filled_state : (s : Fine) (near xs : List Float) → (filled_by s near xs).fine ≡ longer_by s (length xs)
unfolding filled_by took_one
filled_state s near [] = ap (λ (k : ℕ). with_frames s (record { len = k; retained = s.frames.retained; taken = s.frames.taken; skipped = s.frames.skipped })) (sym (add-zero s.frames.len))
filled_state s near (x ∷ xs) =
    filled_state (took_one s).fine (set near s.frames.len x) xs
    ∙ ap (λ (k : ℕ). with_frames s (record { len = k; retained = s.frames.retained; taken = s.frames.taken; skipped = s.frames.skipped })) (one_more s.frames.len (length xs))

filled_sets : (s : Fine) (near xs : List Float) → (filled_by s near xs).near ≡ sets near s.frames.len xs
unfolding filled_by took_one
filled_sets s near [] = refl
filled_sets s near (x ∷ xs) =
    filled_sets (took_one s).fine (set near s.frames.len x) xs
    ∙ ap (λ (k : ℕ). sets (set near s.frames.len x) k xs) (add-one s.frames.len)

-- the first n samples, as `fill` puts them
pub filled_near : (s : Fine) (near xs : List Float) (n : ℕ) → n ≤ length xs → s.frames.len + n ≤ length near → (filled_by s near (take n xs)).near ≡ paste near s.frames.len xs n
filled_near s near xs n h room =
    let l = length-take-le n xs h in
    filled_sets s near (take n xs)
    ∙ sets-eq (take n xs) near s.frames.len (omega (arith, l))
    ∙ ap (λ (k : ℕ). take s.frames.len near ++ take n xs ++ drop (s.frames.len + k) near) l
