pub mod Words
pub mod Answers
pub mod Meaning
pub mod Runs
