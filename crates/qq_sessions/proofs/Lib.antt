mod Holders
pub mod Lows
mod OpenRows
mod Owners
mod Places
mod Rising
