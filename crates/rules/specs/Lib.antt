pub mod Change
pub mod Rules
pub mod Path
pub mod Demand3
pub mod Credited
pub mod Service
pub mod Numbers
