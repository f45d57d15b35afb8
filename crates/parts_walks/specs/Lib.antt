-- How the loops move their windows, and what they are answered.
pub mod Inputs
pub mod Judged
pub mod Ordered
pub mod Counted
