pub mod Examples
pub mod Checking
pub mod Exactness
