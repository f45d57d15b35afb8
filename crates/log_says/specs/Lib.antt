-- What is printed of the verdict on a log.
pub mod Says
pub mod Calls
