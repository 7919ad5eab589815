-- What the contracts cite.
pub mod Benches
pub mod Bounds
pub mod Words
