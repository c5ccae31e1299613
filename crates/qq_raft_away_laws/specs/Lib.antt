pub mod Away
pub mod Replaced
pub mod Rules
