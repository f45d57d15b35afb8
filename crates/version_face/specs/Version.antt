-- The version as one number.
use Rattle.std.specs.Prelude.{ℕ, ◌+◌, ◌*◌}

-- The minor number and the patch have two decimal digits each, so that a later version has a larger number.
abbrev pub version_number : ℕ → ℕ → ℕ → ℕ
version_number major minor patch = major * 10000 + minor * 100 + patch

abbrev pub this_version : ℕ
this_version = version_number 0 10 0
