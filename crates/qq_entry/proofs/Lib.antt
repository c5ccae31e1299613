pub mod Equalities
