-- How long the texts are, that what is said is the text of the verdict, and that the call is determined.
pub mod Lengths
pub mod Sides
pub mod Told
pub mod Determined
