-- A scan's state as words, and its calls' answers as numbers.
pub mod Layout
pub mod Answers
pub mod Fitting
