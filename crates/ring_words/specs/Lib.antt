-- A ring's state as a word.
pub mod Layout
