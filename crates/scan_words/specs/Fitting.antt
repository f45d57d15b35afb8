-- A state whose numbers fit their types, and what is said of it: `load_after_store` in proofs/.
use Rattle.std.specs.Prelude.{ℕ, ◌^◌, ◌<◌, ◌≡◌, List, T, length}
use Rattle.std.specs.Float.Ieee as Ieee
use Rattle.std.specs.Float.{binary32, binary64}
use Rattle.scan.specs.declared.Found.{Found}
use Rattle.scan.specs.declared.Found.TheVariants.{Nothing, At}
use Rattle.scan.specs.declared.Scan.{Scan}
use Rattle.scan_words.specs.Layout.{scan_words, loaded, stored}

-- a number of 64 bits may be any: a word holds it
abbrev pub FoundFits : Found → Type 0
FoundFits Nothing = Unit {0}
FoundFits (At r) = T (Ieee.fits binary64 r.correlation)

pub record Fits (s : Scan) : Type 0 where
  pub rate : s.geometry.rate < 2 ^ 32
  pub ceiling : s.geometry.ceiling < 2 ^ 32
  pub far_sum : T (Ieee.fits binary64 s.far.sum)
  pub near_sum : T (Ieee.fits binary64 s.near.sum)
  pub banked : s.verdict.banked < 2 ^ 32
  pub frames : s.verdict.frames < 2 ^ 32
  pub last : T (Ieee.fits binary32 s.verdict.last)
  pub found : FoundFits s.verdict.found

-- what is stored loads again, whatever the words were
abbrev pub LoadsAfterStore : Type 0
LoadsAfterStore = (ws : List ℕ) (s : Scan) → length ws ≡ scan_words → Fits s → loaded (stored ws s) ≡ s
