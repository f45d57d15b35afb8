-- The pair's calls on the words that a host lends.
pub mod Calls
