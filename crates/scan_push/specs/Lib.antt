-- What the functions behind the pushes ask of their arguments. What the pushes do is defined in crate scan.
pub mod Ready
pub mod Envelope
pub mod NearFrame
pub mod Onward
