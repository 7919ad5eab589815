pub mod Columns
pub mod Laws
pub mod Lines
pub mod Texts
