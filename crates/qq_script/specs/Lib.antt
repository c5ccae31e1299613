pub mod Text
pub mod Audit
pub mod Shown
