-- The loop's history, and what it comes to: the log of the bytes that were read, and the verdict on a log.
pub mod Looping
pub mod Hosting
pub mod Lines
pub mod Verdicts
