pub mod Ledger
pub mod Low
