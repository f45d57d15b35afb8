-- `wav::open` meets its contract: test by test; the walk says that both chunks are within the head.
use borrow.Author.Rules.{rules}
use mathlib.Core.Path.{◌≡◌, sym, ◌∙◌}
use native.Mathlib.Omega.{arith}
use Rattle.std.specs.Prelude.{Ok, Err}
use Rattle.answers.proofs.Cases.{cases}
use Rattle.wav.specs.Wave.{opened_wave}
use Rattle.wav.proofs.Walk.{walk_found}
use Rattle.wav.proofs.open.Goals as goal

pub returns-then-head_length-lt12 : goal.returns-then-head_length-lt12
unfolding opened_wave
returns-then-head_length-lt12 c = search (cases, ← c.head_length.ensures)

pub returns-then-u32_at-ne-RIFF : goal.returns-then-u32_at-ne-RIFF
unfolding opened_wave
returns-then-u32_at-ne-RIFF c = search (cases, ← c.head_length.ensures, ← c.u32_at.ensures)

pub returns-then-u32_at-ne-WAVE : goal.returns-then-u32_at-ne-WAVE
unfolding opened_wave
returns-then-u32_at-ne-WAVE c = search (cases, ← c.head_length.ensures, ← c.u32_at.ensures, ← c.u32_at-2.ensures)

pub described-requires : goal.described-requires
described-requires c =
    let found : c.chunks_of.result ≡ Ok c.in_ok-places.places = search rules in
    walk_found c.args.head.now 8192 12 0 (λ h. absurd (omega arith)) _ (sym c.chunks_of.ensures ∙ found)

pub returns-in_err-places : goal.returns-in_err-places
unfolding opened_wave
returns-in_err-places c = search (cases, ← c.head_length.ensures, ← c.u32_at.ensures, ← c.u32_at-2.ensures, ← c.chunks_of.ensures, c.in_err-places.was, rules)

pub returns : goal.returns
unfolding opened_wave
returns c =
    let found : c.chunks_of.result ≡ Ok c.in_ok-places.places = search rules in
    search (cases, ← c.head_length.ensures, ← c.u32_at.ensures, ← c.u32_at-2.ensures, ← c.chunks_of.ensures, found, ← c.described.ensures)
