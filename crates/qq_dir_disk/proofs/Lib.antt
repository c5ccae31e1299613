mod Searches
mod Syncs
pub mod Names
