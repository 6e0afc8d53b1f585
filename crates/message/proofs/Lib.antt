pub mod Accepted
pub mod Content
pub mod Numbers
pub mod Port
pub mod RoundTrip
pub mod Sound
