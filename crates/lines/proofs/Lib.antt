pub mod Numbers
pub mod Spelled
pub mod Meant
pub mod Short
pub mod Signed
