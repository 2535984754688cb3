pub mod Kinds
pub mod Sources
pub mod Words
pub mod Meanings
pub mod Wrap
