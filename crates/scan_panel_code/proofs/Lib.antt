-- Each call from its contract; calls in turn; demand 3 and the agreement.
pub mod Made
pub mod Followed
pub mod Theorems
