pub mod Line
pub mod Ttl
pub mod Replaying
pub mod Planning
