-- A pair's state as words, and what its calls leave there.
pub mod Layout
