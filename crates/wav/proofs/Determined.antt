-- Every public call: its contract admits one answer, and one room.
use mathlib.Core.Path.{◌≡◌}
use contract.Lifetimes.{Lfts}
use denote.Triple.Clauses.{AtExit}
use borrow.Fn.Kinds.{Dens, res_t, ended_of}
use Rattle.answers.specs.Once.{Determined}
use Rattle.answers.proofs.Once.{once}
use Rattle.wav.proofs.open.Kinds as open-kinds
use Rattle.wav.proofs.open.Reads as open-reads
use Rattle.wav.proofs.frame_of.Kinds as frame-kinds
use Rattle.wav.proofs.frame_of.Reads as frame-reads
use Rattle.wav.proofs.take_channel.Kinds as take-kinds
use Rattle.wav.proofs.take_channel.Reads as take-reads

pub open_once : Determined 1 open-kinds.ps open-kinds.r open-reads.Post
open_once κs a v w x y p q = once p q

pub frame_of_once : Determined 0 frame-kinds.ps frame-kinds.r frame-reads.Post
frame_of_once κs a v w x y p q = once p q

pub take_channel_once : Determined 2 take-kinds.ps take-kinds.r take-reads.Post
take_channel_once κs a v w x y p q = once p.0 q.0

pub take_channel_leaves_once : (κs : Lfts 2) (a : Dens κs take-kinds.ps) (v w : (res_t take-kinds.r κs).Denot) (x y : AtExit (ended_of 2 take-kinds.ps take-kinds.r) κs)
    → take-reads.Post κs a v x → take-reads.Post κs a w y → x.1.1.1.1.0.now ≡ y.1.1.1.1.0.now
take_channel_leaves_once κs a v w x y p q = once p.1 q.1
