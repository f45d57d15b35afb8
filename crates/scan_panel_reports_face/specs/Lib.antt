-- The profile's reports, on the words that a host lends.
pub mod Calls
