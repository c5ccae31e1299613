pub mod Ends
pub mod Fits
pub mod Held
pub mod Peers
pub mod Raft
pub mod Rising
pub mod Undone
