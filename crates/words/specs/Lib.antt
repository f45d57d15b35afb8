-- What one word of a lent state says.
pub mod Words
pub mod Answers
