pub mod GeneratedRuns
pub mod Checks
pub mod Plans
