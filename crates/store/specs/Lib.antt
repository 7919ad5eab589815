-- What the contracts cite.
pub mod Meanings
pub mod Shared
