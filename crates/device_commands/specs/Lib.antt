pub mod ChallengeEnds
pub mod Plans
pub mod RunLines
pub mod RunWritten
