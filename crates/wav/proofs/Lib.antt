pub mod Laws
pub mod Walk
pub mod Frames
pub mod Determined
