pub mod NeverBad
