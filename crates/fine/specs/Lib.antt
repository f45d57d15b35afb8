-- Defines the fine stage of SPECIFICATION 9 on values: its state, the calls that are lent no buffer, and what their answers tell.
pub mod State
pub mod Calls
pub mod Told
