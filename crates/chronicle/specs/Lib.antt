pub mod Laws
pub mod Settings
pub mod Worlds
pub mod Ports
