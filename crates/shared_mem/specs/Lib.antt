pub mod Turns
pub mod PassHeld
