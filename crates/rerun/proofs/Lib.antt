pub mod Turns
pub mod Long
