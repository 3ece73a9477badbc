pub mod Admissions
pub mod Lists
pub mod Inputs
pub mod Setups
