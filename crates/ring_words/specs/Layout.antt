-- A ring is one word: how many samples were accepted. Every word loads; one above 2^62 is a ring that breaks a rule.
use Rattle.std.specs.Prelude.{ℕ, List, ltb, set}
use Rattle.answers.specs.Pick.{pick}
use Rattle.answers.specs.Told.{change_told}
use Rattle.words.specs.Words.{word}
use Rattle.words.specs.Answers.{number}
use Rattle.ring.specs.declared.Ring.{Ring}
use Rattle.ring.specs.declared.Changed.{Changed}

-- A state has this many words.
abbrev pub ring_words : ℕ
ring_words = 1

unfoldable pub loaded : List ℕ → Ring
loaded ws = record { accepted = word ws 0 }

-- Says what a call leaves in the words. Numbers below 16 are refusals, and a refused call leaves the word unchanged.
unfoldable pub settled : List ℕ → ℕ → Ring → List ℕ
settled ws number r = pick (ltb number 16) ws (set ws 0 r.accepted)

abbrev pub changed_words : List ℕ → Changed → List ℕ
changed_words ws c = settled ws (number (change_told c.answer)) c.ring
