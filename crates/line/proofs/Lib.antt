pub mod Flag
pub mod Places
