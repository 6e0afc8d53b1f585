pub mod Fields
pub mod Places
pub mod Ticks
pub mod Fills
pub mod Reserved
pub mod Steps
pub mod Runs
pub mod Examples
