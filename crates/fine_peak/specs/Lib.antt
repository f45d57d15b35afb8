-- Defines the peak rule of SPECIFICATION 9 on values, what it means to be the first and the last of the greatest, and what the answer tells.
pub mod Peak
pub mod Greatest
pub mod Told
