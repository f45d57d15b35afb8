-- What holds of the ring beside the contract of each call.
pub mod Accepted
pub mod Slots
pub mod Laws
pub mod Faithful
pub mod Determined
