pub mod Opened
pub mod Opening
pub mod Restarting
pub mod Taking
