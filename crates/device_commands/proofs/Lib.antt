pub mod AttestedBytes
pub mod Comes
pub mod RunNames
pub mod RunSetups
pub mod SoundPasses
pub mod StoredValues
pub mod WholeRuns
