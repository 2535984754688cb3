pub mod Cells
pub mod Joins
pub mod Lanes
pub mod Undo
