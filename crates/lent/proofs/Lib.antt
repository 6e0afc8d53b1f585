pub mod Search
pub mod Unpacked
