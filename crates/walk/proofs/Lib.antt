-- The lemmas of the crate, by what they show.
pub mod Fitting
pub mod Walks
