-- What a host comes to that goes by these calls.
pub mod Hands
pub mod Sides
pub mod Judges
pub mod Orders
pub mod Walks
pub mod Hosts
pub mod Determined
