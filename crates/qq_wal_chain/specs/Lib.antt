pub mod Chain
pub mod Format
pub mod Image
pub mod Lanes
pub mod Laws
pub mod Promise
pub mod Records
pub mod Wal
