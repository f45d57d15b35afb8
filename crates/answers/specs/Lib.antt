-- The words that every crate's definitions share.
pub mod Pick
pub mod Refusals
pub mod Numbers
pub mod Answers
pub mod Told
pub mod Once
