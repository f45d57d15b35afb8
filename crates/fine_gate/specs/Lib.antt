-- Defines the fine gate of SPECIFICATION 9 on values, and what its answers tell.
pub mod Gate
pub mod Told
