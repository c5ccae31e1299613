pub mod Above
pub mod Carries
pub mod Lane
pub mod Log
pub mod Op
pub mod Same
pub mod Stable
pub mod Writable
