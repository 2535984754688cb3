pub mod Fronts
pub mod Opens
pub mod Staged
pub mod Positions
pub mod Replies
pub mod Stepping
pub mod Living
pub mod Lasting
