-- The tracker's fields follow the words on its history, so the history alone explains each verdict and the largest run on its record.
pub mod Says
pub mod Accepted
pub mod Longest
pub mod Follows
pub mod Verdicts
pub mod Sentences
pub mod Explained
pub mod Calls
pub mod Examples
