-- The layout of a tracker's state that a host lends as words.
pub mod Layout
pub mod Answers
pub mod Fitting
