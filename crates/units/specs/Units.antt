-- SPECIFICATION 6: bins and native samples are two units.
use Rattle.std.specs.Prelude.{ℕ, ◌*◌}
use Rattle.units.specs.declared.Samples.{Samples}
use Rattle.units.specs.declared.Bins.{Bins}

abbrev pub samples : ℕ → Samples
samples n = record { 0 = n }

abbrev pub bins : ℕ → Bins
bins n = record { 0 = n }

-- Converts a delay in bins to native samples, by the decimation. This is the only conversion.
abbrev pub in_samples : ℕ → Bins → Samples
in_samples decimation b = samples (b.0 * decimation)
