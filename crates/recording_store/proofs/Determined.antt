-- Every public call: its contract admits one answer, and one buffer.
use mathlib.Core.Path.{◌≡◌}
use contract.Lifetimes.{Lfts}
use denote.Triple.Clauses.{AtExit}
use borrow.Fn.Kinds.{Dens, res_t, ended_of}
use Rattle.answers.specs.Once.{Determined}
use Rattle.answers.proofs.Once.{once}
use Rattle.recording_store.proofs.store.Kinds as store-kinds
use Rattle.recording_store.proofs.store.Reads as store-reads
use Rattle.recording_store.proofs.write_header.Kinds as write-header-kinds
use Rattle.recording_store.proofs.write_header.Reads as write-header-reads
use Rattle.recording_store.proofs.takes.Kinds as takes-kinds
use Rattle.recording_store.proofs.takes.Reads as takes-reads

pub store_once : Determined 2 store-kinds.ps store-kinds.r store-reads.Post
store_once κs a v w x y p q = once p.0 q.0

pub store_leaves_once : (κs : Lfts 2) (a : Dens κs store-kinds.ps) (v w : (res_t store-kinds.r κs).Denot) (x y : AtExit (ended_of 2 store-kinds.ps store-kinds.r) κs)
    → store-reads.Post κs a v x → store-reads.Post κs a w y → x.1.1.1.0.now ≡ y.1.1.1.0.now
store_leaves_once κs a v w x y p q = once p.1 q.1

pub write_header_once : Determined 1 write-header-kinds.ps write-header-kinds.r write-header-reads.Post
write_header_once κs a v w x y p q = once p.0 q.0

pub write_header_leaves_once : (κs : Lfts 1) (a : Dens κs write-header-kinds.ps) (v w : (res_t write-header-kinds.r κs).Denot) (x y : AtExit (ended_of 1 write-header-kinds.ps write-header-kinds.r) κs)
    → write-header-reads.Post κs a v x → write-header-reads.Post κs a w y → x.1.1.0.now ≡ y.1.1.0.now
write_header_leaves_once κs a v w x y p q = once p.1 q.1

pub takes_once : Determined 0 takes-kinds.ps takes-kinds.r takes-reads.Post
takes_once κs a v w x y p q = once p q
