pub mod Arguments
pub mod Definitions
pub mod Draft
pub mod Elements
pub mod Reading
pub mod Runnable
