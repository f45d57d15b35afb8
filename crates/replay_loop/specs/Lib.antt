-- The loop of a host as the history of its turns, and what such a history comes to.
pub mod Turns
pub mod Reads
