pub mod Events
pub mod Report
pub mod Promises
pub mod Room
