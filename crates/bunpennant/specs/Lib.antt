pub mod C
pub mod Promises
