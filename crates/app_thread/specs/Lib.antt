pub mod Turns
pub mod WholeRuns
