-- What the contract cites.
pub mod Callees
pub mod Texts
pub mod Worked
