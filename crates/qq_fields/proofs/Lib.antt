pub mod Appends
pub mod Laws
mod Loop
