pub mod Listed
pub mod Records
pub mod Shown
pub mod Worked
pub mod Written
