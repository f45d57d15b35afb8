-- The call is refused exactly where its list of refusals says so, and with that number.
use Rattle.std.proofs.Common.{◌≡◌, List, refl}
use lib.Ieee.{Float}
use Rattle.answers.specs.Pick.{pick_all}
use Rattle.answers.specs.Refusals.{none}
use Rattle.fine.specs.declared.Fine.{Fine}
use Rattle.fine.specs.Told.{refusal_told}
use Rattle.fine.proofs.Numbers.{told}
use Rattle.fine_peak.specs.declared.PeakAnswer.{PeakAnswer}
use Rattle.fine_peak.specs.declared.Searched.{Searched}
use Rattle.fine_peak.specs.Peak.{ruled, peak_refusal, searched}
use Rattle.fine_peak.specs.Told.{peak_told}

pub searched_number : (s : Fine) (correlation : List Float) → refusal_told (peak_told (searched s correlation).answer) ≡ peak_refusal s correlation
unfolding searched ruled
searched_number s correlation =
    told (λ (r : Searched). refusal_told (peak_told r.answer)) (peak_refusal s correlation) _ _ refl (pick_all (λ (a : PeakAnswer). refusal_told (peak_told a) ≡ none) _ _ _ refl refl)
