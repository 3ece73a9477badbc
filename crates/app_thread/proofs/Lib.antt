pub mod Asked
pub mod Turned
pub mod Gone
pub mod Waited
pub mod BusyPort
