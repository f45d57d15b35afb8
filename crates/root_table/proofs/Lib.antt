-- Laws of the table's entries and of Newton's steps.
pub mod Entries
pub mod Steps
