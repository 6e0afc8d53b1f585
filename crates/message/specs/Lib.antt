pub mod Numbers
pub mod Port
pub mod Read
pub mod RoundTrip
pub mod Write
