-- The lemmas of the crate, by what they show.
pub mod Changes
pub mod Places
pub mod Usable
