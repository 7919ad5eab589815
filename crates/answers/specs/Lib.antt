pub mod Padded
pub mod Shown
pub mod Summaries
