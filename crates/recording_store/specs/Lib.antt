-- The page for a reader is Storing. Steps has the contracts between the parts of the code.
pub mod Storing
pub mod Steps
