-- The page for a reader is Shorts. Steps has the contracts between the parts of the code.
pub mod Shorts
pub mod Steps
