pub mod Numbers
pub mod Pushing
pub mod Holds
pub mod NearHolds
pub mod Groups
pub mod Calls
pub mod Determined
