-- A list that is filled with +0.
use Rattle.std.proofs.Common.{◌≡◌, ℕ, zero, suc, replicate, refl, add-one}
use Rattle.std.proofs.lemmas.List.{replicate_more}
use Rattle.floats.specs.Functions.{zero64}
use Rattle.folds.specs.Sums.{table, zeros}

pub all_zeros : (n : ℕ) → replicate n zero64 ≡ zeros n
unfolding zeros table
all_zeros zero = refl
all_zeros (suc n) = rw (← all_zeros n, replicate_more, add-one)
