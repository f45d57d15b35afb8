-- `words::pattern` meets its contract: a NaN keeps a NaN's pattern, and any other value has one of its own.
use mathlib.Core.Path.{sym, ◌∙◌}
use lib.Ieee.{binary64}
use Rattle.words.proofs.Patterns.{stays, made, number}
use Rattle.words.proofs.pattern.Goals as goal
use Rattle.words.proofs.pattern.Goals.{else-is_nan-via-then-is_nan+else-old-gt-INFINITE, else-is_nan-via-else-is_nan}

pub returns-then-old-gt-INFINITE : goal.returns-then-old-gt-INFINITE
returns-then-old-gt-INFINITE c = stays binary64 _ _ (sym c.is_nan.ensures.value ∙ c.if-is_nan.true) c.if-old-gt-INFINITE.true

pub returns : goal.returns
returns c =
    c.pattern64.ensures ∙ elim c.else-is_nan.branch [
      | else-is_nan-via-then-is_nan+else-old-gt-INFINITE w ↦ made binary64 _ _ (sym c.is_nan.ensures.value ∙ w.if-is_nan.true) w.if-old-gt-INFINITE.false
      | else-is_nan-via-else-is_nan w ↦ number binary64 _ _ (sym c.is_nan.ensures.value ∙ w.if-is_nan.false)
    ]
