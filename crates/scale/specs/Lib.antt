pub mod Refusals
pub mod Weights
pub mod Totals
pub mod Shares
pub mod Fairness
