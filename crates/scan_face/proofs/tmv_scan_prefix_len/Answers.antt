-- `scan_face::tmv_scan_prefix_len` meets its contract.
use mathlib.Core.Path.{refl, sym, ◌∙◌}
use Rattle.scan_words.proofs.Chosen.{given, kept}
use Rattle.scan_face.proofs.tmv_scan_prefix_len.Goals as goal

pub returns-then-in_table : goal.returns-then-in_table
returns-then-in_table c = given _ _ _ _ (sym c.in_table.ensures ∙ c.if-in_table.true) (cc c.geometry_of-g.ensures.is)

pub returns : goal.returns
returns c = kept _ _ _ _ (sym c.in_table.ensures ∙ c.if-in_table.false) refl
