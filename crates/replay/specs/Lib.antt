pub mod Words
pub mod Events
pub mod Log
pub mod Beginning
