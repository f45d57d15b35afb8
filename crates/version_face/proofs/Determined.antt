-- The call's contract admits one answer.
use Rattle.answers.specs.Once.{Determined}
use Rattle.answers.proofs.Once.{once}
use Rattle.version_face.proofs.tmv_version.Kinds as version-kinds
use Rattle.version_face.proofs.tmv_version.Reads as version-reads

pub version_once : Determined 0 version-kinds.ps version-kinds.r version-reads.Post
version_once κs a v w x y p q = once p q
