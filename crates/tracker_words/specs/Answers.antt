-- Says what a call of the tracker leaves in the words of the state.
use Rattle.std.specs.Prelude.{ℕ, List}
use Rattle.answers.specs.Told.{change_told}
use Rattle.words.specs.Answers.{number}
use Rattle.tracker.specs.declared.Changed.{Changed}
use Rattle.tracker.specs.declared.Cycled.{Cycled}
use Rattle.tracker.specs.Told.{verdict_told}
use Rattle.tracker_words.specs.Layout.{settled}

abbrev pub changed_words : List ℕ → Changed → List ℕ
changed_words ws c = settled ws (number (change_told c.answer)) c.tracker

abbrev pub cycled_words : List ℕ → Cycled → List ℕ
cycled_words ws c = settled ws (number (verdict_told c.verdict)) c.tracker
