-- Two envelopes of two lengths; what each world keeps by itself; what holds parted or not.
pub mod Rings
pub mod Own
pub mod Always
-- Partings, and one call.
pub mod Partings
pub mod Agrees
pub mod Differs
-- A run of near samples; any call.
pub mod Runs
pub mod Feeds
-- Lists of calls: the statements.
pub mod Lists
pub mod Rows
