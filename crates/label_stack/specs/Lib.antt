pub mod Ttl
pub mod Labels
pub mod Promises
