pub mod Grammar
pub mod Held
pub mod Spoken
