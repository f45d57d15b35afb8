-- Every call of the floats: its contract admits one answer, or one list.
use mathlib.Core.Path.{◌≡◌}
use contract.Lifetimes.{Lfts}
use denote.Triple.Clauses.{AtExit}
use borrow.Fn.Kinds.{Dens, res_t, ended_of}
use Rattle.answers.specs.Once.{Determined}
use Rattle.answers.proofs.Once.{once}
use Rattle.floats.proofs.Laws.{narrow_bits_only, root_bits_only}
use Rattle.floats_face.proofs.tmv_narrow.Kinds as narrow_kinds
use Rattle.floats_face.proofs.tmv_narrow.Reads as narrow-reads
use Rattle.floats_face.proofs.tmv_square_root.Kinds as square-root-kinds
use Rattle.floats_face.proofs.tmv_square_root.Reads as square-root-reads
use Rattle.floats_face.proofs.tmv_square_roots.Kinds as square-roots-kinds
use Rattle.floats_face.proofs.tmv_square_roots.Reads as square-roots-reads
use Rattle.floats_face.proofs.tmv_is_finite.Kinds as is-finite-kinds
use Rattle.floats_face.proofs.tmv_is_finite.Reads as is-finite-reads
use Rattle.floats_face.proofs.tmv_is_finite32.Kinds as is-finite32-kinds
use Rattle.floats_face.proofs.tmv_is_finite32.Reads as is-finite32-reads
use Rattle.floats_face.proofs.tmv_magnitude.Kinds as magnitude-kinds
use Rattle.floats_face.proofs.tmv_magnitude.Reads as magnitude_reads

pub narrow_once : Determined 0 narrow_kinds.ps narrow_kinds.r narrow-reads.Post
narrow_once κs a v w x y p q = once (narrow_bits_only _ _ p) (narrow_bits_only _ _ q)

pub square_root_once : Determined 0 square-root-kinds.ps square-root-kinds.r square-root-reads.Post
square_root_once κs a v w x y p q = once (root_bits_only _ _ p) (root_bits_only _ _ q)

pub square_roots_once : (κs : Lfts 1) (a : Dens κs square-roots-kinds.ps) (v w : (res_t square-roots-kinds.r κs).Denot) (x y : AtExit (ended_of 1 square-roots-kinds.ps square-roots-kinds.r) κs)
    → square-roots-reads.Post κs a v x → square-roots-reads.Post κs a w y → x.0.now ≡ y.0.now
square_roots_once κs a v w x y p q = once p q

pub is_finite_once : Determined 0 is-finite-kinds.ps is-finite-kinds.r is-finite-reads.Post
is_finite_once κs a v w x y p q = once p q

pub is_finite32_once : Determined 0 is-finite32-kinds.ps is-finite32-kinds.r is-finite32-reads.Post
is_finite32_once κs a v w x y p q = once p q

pub magnitude_once : Determined 0 magnitude-kinds.ps magnitude-kinds.r magnitude_reads.Post
magnitude_once κs a v w x y p q = once p q
