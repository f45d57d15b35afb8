-- Near samples in runs, on the words that a host lends.
pub mod Calls
