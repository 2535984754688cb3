pub mod Exact
pub mod Opposites
pub mod Steps
pub mod Totals
