-- How long the texts are, and that what a host tells is the text of `parting`.
pub mod Lengths
pub mod Told
pub mod Examples
pub mod Determined
