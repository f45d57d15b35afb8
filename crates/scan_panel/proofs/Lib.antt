-- The profile's table, room and calls.
pub mod Panel
-- What every call keeps; demand 3.
pub mod Rules
pub mod Streams
