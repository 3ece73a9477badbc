pub mod Apart
pub mod Fields
pub mod Indexes
pub mod PassLocks
pub mod WordBits
