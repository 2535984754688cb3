pub mod Months
pub mod Line
pub mod Questions
pub mod Settling
