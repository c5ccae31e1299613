pub mod Addressed
pub mod Audited
