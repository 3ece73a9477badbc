pub mod Cores
pub mod Wants
pub mod Kept
