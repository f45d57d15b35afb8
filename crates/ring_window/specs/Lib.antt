-- A window of the ring in one call, in patterns or in floats, and a push of floats.
pub mod Window
pub mod Told
pub mod Statements
pub mod Cuts
