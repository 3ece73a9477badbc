pub mod Values
pub mod Rules
