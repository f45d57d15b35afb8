-- `scan_words::answering::settle_change` meets its contract.
use mathlib.Core.Path.{◌∙◌}
use Rattle.scan_words.proofs.answering.settle_change.Goals as goal

pub returns : goal.returns
returns c =
    record {
      number = c.settle.ensures.number ∙ c.change_number.ensures;
      words = cc (c.settle.ensures.words, c.change_number.ensures);
    }
