pub mod Made
pub mod Runs
pub mod Followed
pub mod Forgets
pub mod Passed
