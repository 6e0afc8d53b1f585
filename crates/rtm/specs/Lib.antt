pub mod Stamped
pub mod Rounding
pub mod Credited
