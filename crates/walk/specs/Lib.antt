-- What the contracts cite.
pub mod Ways
