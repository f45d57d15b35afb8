pub mod Laws
pub mod Theorems
pub mod Determined
pub mod Forms
