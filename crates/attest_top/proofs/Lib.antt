pub mod Becomes
pub mod Kept
pub mod OnePlan
pub mod OneResult
pub mod Inverse
pub mod Told
pub mod Headlines
pub mod RunHeadlines
mod CheckHeadlines
pub mod RunStatus
pub mod Promises
pub mod ScriptRead
pub mod Behind
pub mod NamedChecks
