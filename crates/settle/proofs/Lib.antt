pub mod Settling
pub mod Between
pub mod Recutting
pub mod Rows
