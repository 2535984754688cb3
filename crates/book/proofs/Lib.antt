pub mod Finding
pub mod Checking
pub mod Weighing
pub mod Passing
pub mod Cutting
pub mod Recutting
