-- The public call: its contract admits one result.
use Rattle.answers.specs.Once.{Determined}
use Rattle.answers.proofs.Once.{once}
use Rattle.fine_peak.proofs.peak.Kinds as peak-kinds
use Rattle.fine_peak.proofs.peak.Reads as peak-reads

pub peak_once : Determined 1 peak-kinds.ps peak-kinds.r peak-reads.Post
peak_once κs a v w x y p q = once p q
