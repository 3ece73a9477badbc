pub mod Rows
pub mod Sums
pub mod Immediates
pub mod Listing
pub mod WordLaws
