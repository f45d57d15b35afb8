-- Two logs from the bytes at hand, in their order: the first line in which they are not the same.
use Rattle.std.specs.Prelude.{ℕ, Bool, List, take}
use Rattle.answers.specs.Numbers.{next_long_count}
use Rattle.answers.specs.Pick.{pick}
use Rattle.log_text.specs.Text.{same_text}
use Rattle.log_passes.specs.Taking.{taken_in}
use Rattle.log_passes.specs.declared.taking.Taken.{Taken}
use Rattle.log_passes.specs.declared.taking.Taken.TheVariants as taken
use Rattle.log_passes.specs.declared.beside.Ask.{Ask}
use Rattle.log_passes.specs.declared.beside.Ask.TheVariants.{Goes, WantsFirst, WantsSecond, Same, Apart, Strange}
use Rattle.log_passes.specs.declared.beside.Beside.{Beside}

-- a line of each
unfoldable pub beside_texts : ℕ → List ℕ → ℕ → List ℕ → ℕ → Beside
beside_texts place x u y v = pick (same_text x y) (record { place = next_long_count place; ask = Goes u v }) (record { place = place; ask = Apart })

-- a line of the first, and what the second gives
unfoldable pub beside_first : ℕ → List ℕ → ℕ → List ℕ → Taken → Beside
beside_first place x u second (taken.Text n v) = beside_texts place x u (take n second) v
beside_first place x u second taken.Nothing = record { place = place; ask = Apart }
beside_first place x u second taken.Wants = record { place = place; ask = WantsSecond }
beside_first place x u second taken.Long = record { place = place; ask = Strange }

-- the first is over, and the second gives this
unfoldable pub if_more : Taken → Ask
if_more (taken.Text n v) = Apart
if_more taken.Nothing = Same
if_more taken.Wants = WantsSecond
if_more taken.Long = Strange

unfoldable pub beside_of : ℕ → List ℕ → Taken → List ℕ → Taken → Beside
beside_of place first (taken.Text n u) second t = beside_first place (take n first) u second t
beside_of place first taken.Nothing second t = record { place = place; ask = if_more t }
beside_of place first taken.Wants second t = record { place = place; ask = WantsFirst }
beside_of place first taken.Long second t = record { place = place; ask = Strange }

unfoldable pub beside_in : ℕ → List ℕ → Bool → List ℕ → Bool → Beside
beside_in place first e second f = beside_of place first (taken_in first e) second (taken_in second f)
