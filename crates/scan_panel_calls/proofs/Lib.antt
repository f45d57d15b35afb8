-- The table and each call, as the code found them; what the contracts come to.
pub mod Calls
pub mod Determined
