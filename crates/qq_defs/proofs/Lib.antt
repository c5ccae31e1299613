mod Documents
mod Reading
pub mod Runnable
