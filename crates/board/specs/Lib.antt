pub mod Lanes
pub mod Moves
