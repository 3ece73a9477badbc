pub mod NextDraws
pub mod Lists
pub mod Setups
