pub mod Taking
pub mod Determined
pub mod Calling
