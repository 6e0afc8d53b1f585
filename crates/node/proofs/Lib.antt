pub mod Replies
pub mod Handover
pub mod Runs
pub mod RunsExample
