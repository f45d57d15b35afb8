-- What an answer tells is the whole answer: two answers that tell the same are the same. A ratio is told by its pattern, which says all of a binary64.
use Rattle.std.proofs.Common.{◌≡◌, ℕ, T, ap, ◌∙◌}
use lib.Ieee as Ieee
use lib.Ieee.{Float, binary64}
use Rattle.units.specs.Units.{samples}
use Rattle.fine.specs.declared.Positions.{Positions}
use Rattle.fine.proofs.Faithful.{same_pattern, same_positions}
use Rattle.fine_peak.specs.declared.Lock.{Lock}
use Rattle.fine_peak.specs.declared.PeakAnswer.{PeakAnswer}
use Rattle.fine_peak.specs.declared.PeakAnswer.TheVariants.{Refused, NoCandidate, Candidate}
use Rattle.fine_peak.specs.Told.{peak_told}

-- the ratio of a candidate is a binary64
abbrev pub Binary64 : PeakAnswer → Type 0
Binary64 (Refused n) = Unit {0}
Binary64 (NoCandidate at) = Unit {0}
Binary64 (Candidate lock) = T (Ieee.fits binary64 lock.ratio)

abbrev lock_with : ℕ → Positions → Float → Lock
lock_with delay at ratio = record { delay = samples delay; peak_at = at; ratio = ratio }

pub peak_told_lem : (x y : PeakAnswer) → Binary64 x → Binary64 y → peak_told x ≡ peak_told y → x ≡ y
peak_told_lem (Refused m) (Refused n) h k e = cc
peak_told_lem (Refused m) (NoCandidate q) h k e = cc
peak_told_lem (Refused m) (Candidate b) h k e = cc
peak_told_lem (NoCandidate p) (Refused n) h k e = cc
peak_told_lem (NoCandidate p) (NoCandidate q) h k e =
    let first : p.first ≡ q.first = cc in
    let last : p.last ≡ q.last = cc in
    ap NoCandidate (same_positions p q first last)
peak_told_lem (NoCandidate p) (Candidate b) h k e = cc
peak_told_lem (Candidate a) (Refused n) h k e = cc
peak_told_lem (Candidate a) (NoCandidate q) h k e = cc
peak_told_lem (Candidate a) (Candidate b) h k e =
    let delay : a.delay.0 ≡ b.delay.0 = cc in
    let first : a.peak_at.first ≡ b.peak_at.first = cc in
    let last : a.peak_at.last ≡ b.peak_at.last = cc in
    let place = same_positions a.peak_at b.peak_at first last in
    let ratio : a.ratio ≡ b.ratio = same_pattern a.ratio b.ratio h k (cc) in
    ap (λ d. Candidate (lock_with d a.peak_at a.ratio)) delay ∙ ap (λ p. Candidate (lock_with b.delay.0 p a.ratio)) place ∙ ap (λ x. Candidate (lock_with b.delay.0 b.peak_at x)) ratio
