-- Defines for each call what it answers and leaves.
pub mod Calls
