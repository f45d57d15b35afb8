pub mod LoadAfterStore
