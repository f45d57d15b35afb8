-- `scored` meets its contract: by the answer.
use Rattle.replay_near.proofs.scored.Goals as goal

pub returns-in-Refused : goal.returns-in-Refused
returns-in-Refused c = λ b. rw (c.in-Refused.is, c.with_scan.ensures)

pub returns-in-Frame : goal.returns-in-Frame
returns-in-Frame c = λ b. rw (c.in-Frame.is, c.with_frame-next.ensures, c.word_of.ensures)
