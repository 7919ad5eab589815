pub mod Adding
pub mod Summing
