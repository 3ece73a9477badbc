pub mod Binds
pub mod Readings
pub mod Writings
