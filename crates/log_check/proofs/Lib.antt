pub mod Steps
pub mod Accepts
pub mod Verdicts
