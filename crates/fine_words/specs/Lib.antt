-- The layout of a fine state that a host lends as words.
pub mod Layout
pub mod Answers
pub mod Fitting
