-- A fine state whose numbers fit their types, and what is proved of it: `load_after_store` in proofs/.
use Rattle.std.specs.Prelude.{ℕ, ◌^◌, ◌<◌, ◌≡◌, List, T}
use Rattle.std.specs.Float.Ieee as Ieee
use Rattle.std.specs.Float.{binary64}
use Rattle.fine.specs.declared.Fine.{Fine}
use Rattle.fine_words.specs.Layout.{loaded, stored}

-- A number of 64 bits needs no condition: a word holds it.
pub record Fits (s : Fine) : Type 0 where
  pub span : s.lengths.span < 2 ^ 32
  pub taken : s.frames.taken < 2 ^ 32
  pub skipped : s.frames.skipped < 2 ^ 32
  pub ratio : T (Ieee.fits binary64 s.scans.ratio)

-- What was stored loads again, whatever the words were before.
abbrev pub LoadsAfterStore : Type 0
LoadsAfterStore = (ws : List ℕ) (s : Fine) → Fits s → loaded (stored ws s) ≡ s
