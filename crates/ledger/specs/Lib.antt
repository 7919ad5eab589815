-- What the contracts cite.
pub mod Bounds
pub mod Counts
pub mod Ledgers
pub mod Records
