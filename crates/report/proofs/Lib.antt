pub mod Captures
pub mod Counting
pub mod Rooms
pub mod Extremes
pub mod OnPads
pub mod Examples
