pub mod Fault
pub mod Files
pub mod Listed
pub mod Text
pub mod Worked
pub mod Written
