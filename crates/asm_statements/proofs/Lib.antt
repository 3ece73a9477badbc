pub mod Ranges
pub mod Boths
pub mod Faults
pub mod Counts
pub mod Commas
pub mod Mnemonics
