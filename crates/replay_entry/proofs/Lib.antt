pub mod Supplying
pub mod Entries
