pub mod Settled
pub mod Following
