pub mod Draws
pub mod Applications
pub mod Generated
pub mod Parts
