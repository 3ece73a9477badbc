pub mod Knows
pub mod Macs
pub mod Names
