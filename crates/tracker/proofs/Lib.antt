-- What holds of the tracker beside the contract of each call.
pub mod Equal
pub mod Sound
pub mod Laws
pub mod Faithful
pub mod Determined
