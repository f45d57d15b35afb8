-- The wall panel's profile, on the words that a host lends.
pub mod Calls
