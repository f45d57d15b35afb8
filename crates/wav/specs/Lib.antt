-- The pages for a reader are Riff, Wave and Channel, in this order. Steps has the contracts between the parts of the code.
pub mod Riff
pub mod Wave
pub mod Channel
pub mod Steps
