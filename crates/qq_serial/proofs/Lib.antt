pub mod Runs
mod While
