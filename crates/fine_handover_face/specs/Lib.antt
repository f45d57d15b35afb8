-- Near samples of the fine stage in runs, on the words that a host lends.
pub mod Calls
