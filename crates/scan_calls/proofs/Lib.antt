pub mod Chains
pub mod Passing
pub mod Calls
pub mod Determined
