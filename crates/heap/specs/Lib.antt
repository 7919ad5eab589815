-- What the contracts cite.
pub mod Faults
pub mod Heaps
pub mod Lists
pub mod Piles
pub mod Segments
