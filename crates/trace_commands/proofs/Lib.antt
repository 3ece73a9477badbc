pub mod Checked
pub mod ConfirmedRuns
pub mod Runs
