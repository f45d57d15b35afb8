-- Where the profile's answers are the full scan's.
pub mod Agreement
