-- Windows of the ring and pushes of floats, on the word that a host lends.
pub mod Calls
