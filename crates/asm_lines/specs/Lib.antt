pub mod Kinds
pub mod Lines
pub mod Cuts
pub mod Numbers
pub mod Operands
