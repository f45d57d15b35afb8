pub mod Numbers
pub mod Samples
pub mod Walk
pub mod Refusing
pub mod Given
pub mod Came
pub mod There
pub mod Determined
