pub mod Going
pub mod Rounds
pub mod Settled
pub mod Waits
