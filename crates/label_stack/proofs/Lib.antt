pub mod Examples
pub mod Instances
pub mod Least
pub mod Nearest
pub mod ReadBack
pub mod Walk
