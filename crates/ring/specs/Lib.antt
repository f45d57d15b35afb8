-- The ring: what each call answers and leaves, and what a history of pushes is.
pub mod Ring
pub mod Told
pub mod History
