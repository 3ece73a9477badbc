pub mod Setups
pub mod Runs
pub mod Turns
pub mod Once
pub mod Outcomes
pub mod Keeping
pub mod Threads
