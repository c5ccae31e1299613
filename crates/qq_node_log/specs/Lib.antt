pub mod Ends
pub mod Giving
pub mod Log
pub mod Steps
pub mod Batches
pub mod Syncing
pub mod Found
