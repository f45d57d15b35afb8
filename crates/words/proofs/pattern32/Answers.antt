-- `words::pattern32` meets its contract: a NaN keeps a NaN's pattern, and any other value has one of its own.
use mathlib.Core.Path.{sym, ◌∙◌}
use lib.Ieee.{binary32}
use Rattle.words.proofs.Patterns.{stays, made, number}
use Rattle.words.proofs.pattern32.Goals as goal
use Rattle.words.proofs.pattern32.Goals.{else-is_nan-via-then-is_nan+else-old-gt-INFINITE_32, else-is_nan-via-else-is_nan}

pub returns-then-old-gt-INFINITE_32 : goal.returns-then-old-gt-INFINITE_32
returns-then-old-gt-INFINITE_32 c = stays binary32 _ _ (sym c.is_nan.ensures.value ∙ c.if-is_nan.true) c.if-old-gt-INFINITE_32.true

pub returns : goal.returns
returns c =
    c.pattern32.ensures ∙ elim c.else-is_nan.branch [
      | else-is_nan-via-then-is_nan+else-old-gt-INFINITE_32 w ↦ made binary32 _ _ (sym c.is_nan.ensures.value ∙ w.if-is_nan.true) w.if-old-gt-INFINITE_32.false
      | else-is_nan-via-else-is_nan w ↦ number binary32 _ _ (sym c.is_nan.ensures.value ∙ w.if-is_nan.false)
    ]
