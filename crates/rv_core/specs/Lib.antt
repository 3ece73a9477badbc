pub mod Effects
pub mod Decoded
pub mod Runs
pub mod Waits
pub mod Kept
pub mod Worked
