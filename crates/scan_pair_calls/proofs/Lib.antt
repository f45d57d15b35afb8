-- Each call, by the number of the channel that it names; a making and a reset, refused and not.
pub mod Calls
-- What the contracts come to.
pub mod Determined
