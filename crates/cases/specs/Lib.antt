-- What the contracts cite: the models of one case in memory.
pub mod Items
pub mod Rooms
pub mod Steps
pub mod Openings
pub mod Covers
