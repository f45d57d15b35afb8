-- The wall panel's profile: its table, its room, its calls; what a host feeds it; demand 3 of it.
pub mod Panel
pub mod Feeds
pub mod Streams
