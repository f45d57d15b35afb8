-- A log held against the lines that should stand in it, line by line.
pub mod Held
pub mod Reading
