pub mod Balance
pub mod Low
mod Parts
mod Pushing
