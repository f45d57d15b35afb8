-- Laws of the order of refusals, for every part of the face.
pub mod Order
