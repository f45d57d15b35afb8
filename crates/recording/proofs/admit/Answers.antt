-- `recording::admit` meets its contract: arm by arm.
use native.Mathlib.Omega.{arith}
use Rattle.answers.proofs.Cases.{cases}
use Rattle.answers.specs.Pick.{pick}
use Rattle.recording.specs.Samples.{admitted}
use Rattle.recording.proofs.admit.Goals as goal

pub returns-in_ok-far-in-Far : goal.returns-in_ok-far-in-Far
unfolding admitted pick
returns-in_ok-far-in-Far c = grind (arith, cases)

pub returns-in_ok-near-in-Near : goal.returns-in_ok-near-in-Near
unfolding admitted pick
returns-in_ok-near-in-Near c = grind (arith, cases)

pub returns-in-Rearm : goal.returns-in-Rearm
unfolding admitted pick
returns-in-Rearm c = grind (arith, cases)

pub returns-in_err-far-in-Far : goal.returns-in_err-far-in-Far
unfolding admitted pick
returns-in_err-far-in-Far c = grind (arith, cases)

pub returns-in_err-near-in-Near : goal.returns-in_err-near-in-Near
unfolding admitted pick
returns-in_err-near-in-Near c = grind (arith, cases)
