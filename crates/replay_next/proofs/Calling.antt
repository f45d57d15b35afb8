-- The calls of the code are the calls of a host that streams (replay_stream: Hosts): what the contract of `next` admits, where the hand was fair.
use contract.Lifetimes.{Lfts}
use denote.Triple.Clauses.{AtExit}
use borrow.Fn.Kinds.{Dens, res_t, ended_of}
use Rattle.scan.specs.State.{Buffers}
use Rattle.scan_score.specs.Observing.{lent}
use Rattle.replay_stream.specs.Stream.{Hand}
use Rattle.replay_stream.specs.Hosts.{Rest, FairHand, NextCall}
use Rattle.replay_stream.specs.Giving.{hand_of, gives}
use Rattle.replay_next.proofs.next.Kinds as next-kinds
use Rattle.replay_next.proofs.next.Reads as next-reads

module _ (κs : Lfts 10) (a : Dens κs next-kinds.ps) where
  abbrev hand : Hand
  hand = hand_of a.1.1.0.now a.1.1.1.0.now a.1.1.1.1.0.now a.1.1.1.1.1.0

  abbrev buffers : Buffers
  buffers = lent a.1.1.1.1.1.1.0.now a.1.1.1.1.1.1.1.0.now a.1.1.1.1.1.1.1.1.0.now a.1.1.1.1.1.1.1.1.1.0.now a.1.1.1.1.1.1.1.1.1.1.0.now a.1.1.1.1.1.1.1.1.1.1.1.0.now a.1.1.1.1.1.1.1.1.1.1.1.1.0.now

  pub next_called : (v : (res_t next-kinds.r κs).Denot) (x : AtExit (ended_of 10 next-kinds.ps next-kinds.r) κs) (r : Rest) → FairHand r hand → next-reads.Post κs a v x → NextCall a.0 a.1.0 buffers r
  next_called v x r f c = record {
    hand = hand;
    fair = f;
    gave = gives v (lent x.1.1.1.1.1.1.0.now x.1.1.1.1.1.1.1.0.now x.1.1.1.1.1.1.1.1.0.now x.1.1.1.1.1.1.1.1.1.0.now x.1.1.1.1.1.1.1.1.1.1.0.now x.1.1.1.1.1.1.1.1.1.1.1.0.now x.1.1.1.1.1.1.1.1.1.1.1.1.0.now);
    contract = c;
  }
