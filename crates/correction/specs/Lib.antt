pub mod Header
pub mod Correct
pub mod Promises
pub mod Path
