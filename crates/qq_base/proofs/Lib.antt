pub mod Exits
pub mod Fronts
pub mod InPlace
pub mod Lists
pub mod Numbers
pub mod Puts
