-- The lemmas of the crate, by what they show.
pub mod Splits
pub mod Laying
pub mod Loops
pub mod Placing
pub mod Tests
pub mod Behind
pub mod Walks
pub mod Bare
