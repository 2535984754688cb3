pub mod Parts
pub mod Totals
pub mod Running
