-- The test of a number that fits its width anyway.
use Rattle.std.proofs.Common.{◌≡◌, ℕ, ◌^◌, ◌<◌, Bool, true, false, sym, refl, lt-ltb}
use Rattle.answers.specs.Pick.{pick, both, pick_true}
use Rattle.log_lines.specs.Lines.{bits}

pub bits_first : (wide n : ℕ) (b : Bool) → n < 2 ^ wide → b ≡ both (bits wide n) b
bits_first wide n b h = sym (pick_true (bits wide n) b false (lt-ltb n (2 ^ wide) h))

pub bits_last : (wide n : ℕ) (a : Bool) → n < 2 ^ wide → a ≡ both a (bits wide n)
unfolding pick
bits_last wide n true h = sym (lt-ltb n (2 ^ wide) h)
bits_last wide n false h = refl
