-- The lemmas of the crate, by what they show.
pub mod Cells
pub mod Contents
pub mod Renaming
pub mod Unfolding
