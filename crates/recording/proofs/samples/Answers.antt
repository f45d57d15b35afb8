-- `recording::samples` meets its contract: arm by arm.
use native.Mathlib.Omega.{arith}
use Rattle.recording.specs.Samples.{samples_of}
use Rattle.recording.proofs.samples.Goals as goal

pub returns-in-Far : goal.returns-in-Far
unfolding samples_of
returns-in-Far c = rw c.in-Far.is c.part.ensures

pub returns-in-Near : goal.returns-in-Near
unfolding samples_of
returns-in-Near c = rw c.in-Near.is c.part-in-Near.ensures

pub returns-in-Rearm : goal.returns-in-Rearm
unfolding samples_of
returns-in-Rearm c = grind arith
