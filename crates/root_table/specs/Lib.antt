-- The rule of the table of first guesses.
pub mod Guesses
