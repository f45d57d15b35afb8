-- The definition of a run, tried on numbers: span 1, whose frame has 255 samples. Each row is how many samples the frame has, a run, what its answer tells, and how many the frame has then.
use Prim.Native.Nat.{ℕ}
use mathlib.Core.Path.{◌≡◌, refl}
use mathlib.Core.List.{List, [], ◌∷◌}
use mathlib.Core.Bool.{false}
use lib.IntN.{pos}
use lib.ListN.{replicate}
use lib.Ieee.{Float, nan, fin}
use Rattle.answers.specs.Pick.{pick}
use Rattle.floats.specs.Functions.{zero64}
use Rattle.folds.specs.Sums.{all_finite}
use Rattle.fine.specs.State.{doubled_to, transform_of, lengths_of, new_with, with_frames, same_lengths, keeps_rules, first_refusals}
use Rattle.fine.specs.declared.Fine.{Fine}
use Rattle.fine_gate.specs.Gate.{is_frame, took_one}
use Rattle.fine_handover.specs.Handover.{run_refusal, filled_by, handed}
use Rattle.fine_handover.specs.Told.{run_told}

abbrev state : ℕ → Fine
state len = with_frames (new_with (lengths_of 1)) (record { len = len; retained = false; taken = 0; skipped = 0 })

abbrev x : Float
x = fin false 1 (pos 0)

pub data Row : Type 0 where
  row : ℕ → List Float → List ℕ → ℕ → Row

abbrev Holds : Row → Type 0
Holds (row len xs told after) =
    let r = handed (state len) (replicate 255 zero64) xs in
    (run_told r.handed.answer ≡ told) × (r.handed.fine.frames.len ≡ after)

abbrev All : List Row → Type 0
All [] = Unit {0}
All (r ∷ rows) = Holds r × All rows

-- a run of none, also while a full frame waits; a full frame waits; a part of a frame, its end, and what lies behind it; a NaN in the part; a broken state
abbrev pub rows : List Row
rows =
    row 0 [] (1 ∷ 0 ∷ []) 0
    ∷ row 255 [] (1 ∷ 0 ∷ []) 255
    ∷ row 255 (nan ∷ []) (0 ∷ 6 ∷ []) 255
    ∷ row 253 (x ∷ []) (1 ∷ 1 ∷ []) 254
    ∷ row 253 (x ∷ x ∷ []) (2 ∷ 2 ∷ []) 255
    ∷ row 253 (x ∷ x ∷ x ∷ []) (2 ∷ 2 ∷ []) 255
    ∷ row 253 (x ∷ x ∷ nan ∷ []) (2 ∷ 2 ∷ []) 255
    ∷ row 253 (x ∷ nan ∷ []) (0 ∷ 4 ∷ []) 253
    ∷ row 256 [] (0 ∷ 3 ∷ []) 256
    ∷ []

pub rows_agree : All rows
unfolding handed run_refusal filled_by took_one is_frame all_finite first_refusals keeps_rules same_lengths lengths_of new_with transform_of doubled_to pick
rows_agree = ((refl, refl), ((refl, refl), ((refl, refl), ((refl, refl), ((refl, refl), ((refl, refl), ((refl, refl), ((refl, refl), ((refl, refl), tt)))))))))
