pub mod Counts
pub mod Parts
pub mod PartExamples
pub mod Places
pub mod Rest
pub mod Sound
pub mod Octet
